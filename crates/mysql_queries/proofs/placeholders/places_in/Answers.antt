use Rattle.std.proofs.Common.{◌≡◌, ◌<◌, ◌≤◌, ◌+◌, ◌-◌, ◌++◌, [], ◌∷◌, List, ℕ, true, false, length, take, drop, map}
use Rattle.std.proofs.Common.{arith, subst, sym, ap, ◌∙◌, length-drop}
use Rattle.mysql_queries.specs.Tokens.{IsToken, kind_of}
use Rattle.mysql_queries.specs.Sql.{read_in}
use Rattle.mysql_queries.specs.TokenKinds.{kind_view}
use Rattle.mysql_queries.specs.declared.alone.SoFar.{SoFar}
use Rattle.mysql_queries.proofs.PlaceLists.{Behind, BehindQuiet, Come, behind_there, apart_places, come_all, come_apart}
use Rattle.mysql_queries.proofs.PlaceLists.{come_first, come_mark, come_none, come_place, come_up_to, kind_of_end}
use Rattle.mysql_queries.proofs.PlaceLists.{to_end, token_there}
use Rattle.mysql_queries.proofs.placeholders.places_in.Goals as goal
use Rattle.mysql_queries.proofs.placeholders.places_in.Goals.{then-query-at-eq63+in_ok-push, else-query-at-eq63}
use Rattle.mysql_queries.proofs.placeholders.places_in.Goals.{in-Some+in_ok-push-2, in_default}

pub loop-at-init : goal.loop-at-init
loop-at-init c =
    let query = c.args.query.now in
    let sql = read_in c.args.mode query in
    let end = c.quiet_end-at.result in
    let e = c.behind_quiet-so_far.ensures in
    let z : end - 0 ≡ end = omega arith in
    let quiet : BehindQuiet c.new.result c.behind_quiet-so_far.result (take end query) =
    record {
      none = e.none;
      last = e.last;
      opening = e.opening;
      string = e.string;
      agree =
          e.agree;
    } in
    record {
      in_range = c.quiet_end-at.ensures.in_range;
      come = subst (Come sql end c.behind_quiet-so_far.result) (sym c.new-found.ensures.items)
          (come_up_to sql 0 end c.new.result c.behind_quiet-so_far.result []
          c.quiet_end-at.ensures.from c.quiet_end-at.ensures.in_range c.quiet_end-at.ensures.run
          (subst (λ n. BehindQuiet c.new.result c.behind_quiet-so_far.result (take n query)) (sym z) quiet)
          (come_first sql c.new.result c.new.ensures.last c.new.ensures.opening c.new.ensures.string
          c.new.ensures.agree));
    }

pub loop-at-preserved : goal.loop-at-preserved
loop-at-preserved c =
    let query = c.args.query.now in
    let sql = read_in c.args.mode query in
    let at = c.loop-at.at in
    let so_far = c.loop-at.so_far in
    let found = c.loop-at.found.items in
    let come : Come sql at so_far found = c.loop-at.invariant.come in
    let here = c.if-query-at-eq63 in
    let after : (here.at ≤ length query) × Come sql here.at here.so_far here.found.items = elim here.branch [
      | then-query-at-eq63+in_ok-push w ↦
          let later = w.behind_mark-so_far.result in
          let b = w.behind_mark-so_far.ensures in
          let e : here.found.items ≡ found ++ w.mark_at.result ∷ [] = ap (λ v. v.items) w.found-is ∙
          w.in_ok-push.ensures.items in
          let n = w.at-is in
          let marked : Come sql (at + 1) later (found ++ w.mark_at.result ∷ []) =
          come_mark sql at so_far later found w.mark_at.result c.loop-at-test.true w.if-query-at-eq63.true come
          b.last b.opening b.string b.agree w.mark_at.ensures in (
            omega (arith, n, c.loop-at-test.true),
            subst (λ i. Come sql i here.so_far here.found.items) (sym n)
                (subst (λ s. Come sql (at + 1) s here.found.items) (sym w.so_far-is)
                (subst (Come sql (at + 1) later) (sym e) marked)),
          )
      | else-query-at-eq63 w ↦
          let len = w.token_end-len.result in
          let kind = kind_view w.kind_at-kind.result in
          let later = w.behind-so_far.result in
          let more = w.match-place_of.found.items in
          let n = w.at-is in
          let short : len ≤ length (drop at query) =
          subst (λ y. len ≤ length y) (to_end query at) w.token_end-len.ensures.in_range in
          let in_range : at + len ≤ length query = omega (arith, length-drop at query, c.loop-at-test.true, short) in
          let is_token : IsToken c.args.mode (take len (drop at query)) (drop len (drop at query)) =
          token_there c.args.mode query at len w.token_end-len.ensures.token in
          let of_kind : kind ≡ kind_of (drop at query) = w.kind_at-kind.ensures ∙ kind_of_end query at in
          let b = w.behind-so_far.ensures in
          let behind : Behind c.args.mode so_far later kind (take len (drop at query)) (drop (at + len) query) =
          behind_there c.args.mode query at len so_far later kind
          (take (length query - at) (drop at query)) (to_end query at) w.token_end-len.ensures.some
          short b.last b.opening b.string b.agree in
          let token : Come sql (at + len) later more = elim w.match-place_of.branch [
            | in-Some+in_ok-push-2 v ↦ (let e : more ≡ found ++ v.in-Some.place ∷ [] =
                ap (λ y. y.items) v.found-is ∙ v.in_ok-push-2.ensures.items in
                let p = v.in-Some.ensures.found in
                subst (Come sql (at + len) later) (sym e)
                (come_place sql at len so_far later found kind v.in-Some.place in_range come is_token
                of_kind behind p.0 p.1))
            | in_default v ↦ (subst (Come sql (at + len) later) (sym (ap (λ y. y.items) v.found-is))
                (come_none sql at len so_far later found kind in_range come is_token of_kind behind
                v.in_default.ensures.none))
          ] in (
            omega (arith, n, in_range),
            subst (λ i. Come sql i here.so_far here.found.items) (sym n)
                (subst (λ s. Come sql (at + len) s here.found.items) (sym w.so_far-is)
                (subst (Come sql (at + len) later) (sym (ap (λ y. y.items) w.found-is)) token)),
          )
    ] in
    let q = c.behind_quiet-so_far-in-loop-at.ensures in
    let quiet : BehindQuiet here.so_far c.behind_quiet-so_far-in-loop-at.result
    (take (c.quiet_end-next.result - here.at) (drop here.at query)) =
    record {
      none = q.none;
      last = q.last;
      opening = q.opening;
      string = q.string;
      agree =
          q.agree;
    } in
    record {
      in_range = c.quiet_end-next.ensures.in_range;
      come = come_up_to sql here.at c.quiet_end-next.result here.so_far c.behind_quiet-so_far-in-loop-at.result
          here.found.items c.quiet_end-next.ensures.from c.quiet_end-next.ensures.in_range
          c.quiet_end-next.ensures.run quiet after.1;
    }

pub returns-then-so_far : goal.returns-then-so_far
returns-then-so_far c = come_all (read_in c.args.mode c.args.query.now) c.loop-at.at
    c.loop-at.so_far c.loop-at.found.items c.loop-at-test.false c.loop-at.invariant.come
    c.if-so_far.true

pub returns-else-so_far : goal.returns-else-so_far
returns-else-so_far c =
    let sql = read_in c.args.mode c.args.query.now in
    apart_places sql c.loop-at.found.items c.deref.result.now c.none_alone.result c.deref.ensures.value
    (come_apart sql c.loop-at.at c.loop-at.so_far c.loop-at.found.items c.loop-at-test.false
    c.loop-at.invariant.come c.if-so_far.false) c.none_alone.ensures
