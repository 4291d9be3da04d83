-- `into_parts` tests the pointer. At null the object is the empty one; else two fields are moved,
-- and what they own goes with them.
use mathlib.Core.Path.{◌≡◌, refl, sym, subst}
use Prim.Native.Nat.{ℕ}
use mathlib.Core.List.{List, [], ◌∷◌, ◌++◌}
use lib.Dec.{lit<}
use seplogic.Ra.Ura.{Ura}
use mir.Raw.{raw as bare}
use mir.Val.{Val, vnull, vstruct, of_list}
use base.Logic.{SProp, ent, emp, id⊢, guard_i}
use base.Fml.{ftrue, fsep}
use prog.Memory.{Memory}
use prog.Routine.{Routine}
use prog.Wp.{WpFn, Tables}
use types.Logic.{Logic, sem}
use contract.Monad.{Fun, fact_use}
use contract.Running.{tables, tables_of}
use sound.WpLaws.{WpFn-mono}
use types.Kit.{Item, ‵, raw, ◌⊛◌, given, at_ret, ◌$◌, ◌∵◌, !, qed, by, move, keep, drop, learn, use0, use1, join, split}
use types.Kit.{fsplit, fjoin, fpick, feq_l, suffices, done}
use types.Match.{live}
use types.Part.{whole, sub, agg}
use types.Run.{stop, fld, no_more, and_then, of_opd, lit, bin, first, branches, skips, exec, returns, returns_within}
use types.Run.{enter}
use types.ByLocal.{alloc_all, pass_all, free_all, look_at, get, get_in, sets, env}
use denote.Exit.{yes}
use denote.RawPtr.{Ptr, block_ptr, null_ptr, Testable, tests_null}
use denote.Steps.{nothing}
use denote.Triple.Spec.{triple_of}
use denote.Triple.Table.{entered}
use denote.Triple.Walked.{says, Stays, stay_dropped, walk_of, ends_at, Goes-dropped, walk_Meets}
use Rattle.core.proofs.alloc.Calls.{token, handle_tells}
use Rattle.core.proofs.option.Made.{Some-of, none_of}
use Rattle.core.specs.declared.option.Option.TheVariants.{None, Some}
use Rattle.core.specs.contracts.option.Option as OP
use Rattle.std.proofs.GlobalToken.{dealloc_token-Testable}
use Rattle.std_heap.specs.declared.Global.{Global}
use Rattle.std_alloc.proofs.BoxSteps.Form.{D, B, τ, word, box_typed}
use Rattle.std_alloc.proofs.BoxSteps.Steps.{box_out, box_in}
use Rattle.std_alloc.proofs.ResultValues.{and_tt}
use Rattle.mysql_c_handles.specs.contracts.object.Object as Object
use Rattle.mysql_c_handles.specs.contracts.handle.Handle as Handle
use Rattle.mysql_c_handles.proofs.AsBox.{E, ThePartsRow as To, FromHandle as From, null_word, null_typed}
use Rattle.mysql_c_handles.specs.contracts.handle.Handle.into_parts as F
use Rattle.mysql_c_handles.specs.contracts.handle.Handle.into_parts.Key.{name as #self}
use Rattle.mysql_c_handles.proofs.handle.Handle.into_parts.Statement as stated
use Rattle.mysql_c_handles.proofs.handle.Handle.into_parts.Code as code

abbrev stayed : Stays (F.ended).signature.params (F.ended).kept
stayed = (stay_dropped From yes, tt)

module _ {M : Type 1} {𝓤 : Ura M} (𝓛 : Logic 𝓤) (at_mem : Memory → SProp 𝓤) (run : Routine →
    Fun 𝓤) (𝓣 : Tables 𝓤 𝓛.H) where
  open 𝓛 use {H}

  abbrev W : denote.Triple.Statement.Contract 𝓤
  W = walk_of 𝓛 F.ended stayed (F.clauses 𝓛 at_mem run)

  module _ (a : Global) (x : (Object.the_row).Denot) (vs : List Val) where
    abbrev Z : Ptr → W.Ghost
    Z p = ((tt, tt, tt, (record { at = p; alloc = a; object = x }, tt), (vs, tt)), tt)

    abbrev Goes : Ptr → Type 1
    Goes p = ent 𝓤 (W.pre (Z p)) (WpFn 𝓤 H 𝓣.C 𝓣.Λ code.function (vs ++ []) (W.post (Z p)))

    at_null : Goes null_ptr
    at_null =
        let z = Z null_ptr in let h : (Handle.the_row).Denot = z.0.3.0 in let Post = W.post z in
        qed 𝓛 ((‵ ftrue ⊛ ‵ (fsep ((Handle.the_row).own_val h vs) ftrue)) ∷ raw (emp 𝓤) ∷
        []) ∵ split ! $ drop ! $ fsplit ! $
        fsplit ! $ fpick ! (λ vss. fsplit ! $ feq_l !
        (λ ev. fsplit ! $ feq_l !
        (λ ep. fsplit ! $ handle_tells E.al ! a vss.1.0
        (λ hv ea fa. move ! (2 ∷ []) $ fpick ! (λ is_empty.
        let w = null_word hv in
        let ws : vs ≡ w ∷ [] = subst (λ (us : List Val). vs ≡
        vstruct (of_list (vnull ∷ (us ++ []))) ∷
        []) ea (subst (λ (ps : List Val). vs ≡ vstruct (of_list (ps ++ (vss.1.0 ++ []))) ∷
        []) ep ev) in
        keep ! [] $
        by ! (subst (λ (us : List Val). ent 𝓤 (emp 𝓤) (WpFn 𝓤 H 𝓣.C 𝓣.Λ code.function (us ++ []) Post)) (sym ws)
        (qed 𝓛 [] ∵ enter ! 𝓣.C 𝓣.Λ code.function (w ∷ []) _ $ alloc_all !
        (λ ls. pass_all ! refl (null_typed hv fa, tt) $
        sets ! (of_opd ! (get_in ! (fld ! refl (stop !)) (sub ! 0 refl (whole !)))) refl (
          tt,
          record { fits = lit< tt },
        ) $ sets !
        (of_opd ! (get_in ! (fld ! refl (stop !)) (sub ! 1 refl (whole !)))) refl fa $
        sets ! (bin ! (get ! refl) (lit ! tt) (tests_null null_ptr (lit< tt))) refl (tt, tt) $
        first ! $ branches ! (get ! refl)
        (λ t. sets ! (agg ! (and_then ! (lit ! tt) (no_more !))) refl (tt, (record { fits = lit< tt }, tt)) $
        returns_within ! Post refl (look_at ! 0 refl) $ free_all ! refl $
        use0 𝓛 (‵ ((OP.the_row To).own_val None (live 0 (of_list []) ∷ []))) (none_of 𝓛 To) $
        suffices ! _ (ends_at 𝓛 F.ended stayed (F.clauses 𝓛 at_mem run) z (live 0 (of_list [])) None
        (tt, tt) (tt, tt)) $ says ! is_empty $
        nothing ! $ nothing ! $ fjoin ! $ join ! $ nothing ! $ join ! $ done !)
        (λ t. absurd t)))))))))

    at_block : (b o : ℕ) → Goes (block_ptr b o)
    at_block b o =
        let z = Z (block_ptr b o) in let Post = W.post z in
        let v : D E = record { ptr = block_ptr b o; alloc = a; value = x } in
        let made : To.Denot = record { ptr = block_ptr b o; alloc = a; value = x } in
        let p = block_ptr b o in
        let tok = token E.al a (bare (τ E)) p in
        qed 𝓛 ((‵ ftrue ⊛ ‵ (fsep ((B E).own_val v vs) ftrue)) ∷ raw (emp 𝓤) ∷ []) ∵ split ! $ drop ! $ fsplit ! $
        box_out E ! v vs (λ b' o' hv e ws fa.
        move ! (1 ∷ []) $ use1 𝓛 (given (Testable (block_ptr b' o'))
        (‵ (token E.al a (bare (τ E)) (block_ptr b' o'))))
        (fact_use 𝓤 (Testable (block_ptr b' o'))
        (dealloc_token-Testable 𝓛 a (bare (τ E)) (block_ptr b' o'))
        (guard_i 𝓤 (Testable (block_ptr b' o'))
        (sem 𝓛 (token E.al a (bare (τ E)) (block_ptr b' o'))))) $ learn ! (λ may.
        move ! (1 ∷ []) $
        box_in E ! v b' o' x e refl $ use1 𝓛 (‵ (To.own_val made (word E hv b' o' ∷ []))) (id⊢ 𝓤 _)
        $ move ! (1 ∷ 2 ∷ []) $ drop ! $ drop ! $
        let w = word E hv b' o' in let typed = box_typed E hv b' o' fa in
        let Γ : List (Item 𝓤) = ‵ (To.own_val made (w ∷ [])) ∷ [] in
        by ! (subst (λ (us : List Val). ent 𝓤 (types.Kit.⋆ 𝓛 Γ)
        (WpFn 𝓤 H 𝓣.C 𝓣.Λ code.function (us ++ []) Post)) (sym ws)
        (qed 𝓛 Γ ∵ enter ! 𝓣.C 𝓣.Λ code.function (w ∷ []) _ $ alloc_all ! (λ ls. pass_all ! refl (typed, tt) $
        sets ! (of_opd ! (get_in ! (fld ! refl (stop !)) (sub ! 0 refl (whole !)))) refl (
          tt,
          tt,
        ) $ sets ! (of_opd ! (get_in ! (fld ! refl (stop !)) (sub ! 1 refl (whole !)))) refl
        fa $
        sets ! (bin ! (get ! refl) (lit ! tt) (tests_null (block_ptr b' o') may)) refl (tt, tt) $
        first ! $ branches ! (get ! refl) (λ t. absurd t)
        (λ t. skips ! $ exec ! 𝓣.C 𝓣.Λ (env code.Mir.locals ls) code.Mir.t-5 (at_ret _ Post) $
        sets ! (of_opd ! (get ! refl)) refl (tt, tt) $
        sets ! (agg ! (and_then ! (get ! refl) (and_then ! (get ! refl) (no_more !)))) refl typed $
        sets ! (agg ! (and_then ! (lit ! tt) (and_then ! (get ! refl) (no_more !)))) refl
        (and_tt _ typed.0, (record { fits = lit< tt }, (typed.1, tt))) $
        returns ! (look_at ! 0 refl) $ free_all ! refl $
        use1 𝓛 (‵ ((OP.the_row To).own_val (Some made) (live 1 (of_list (w ∷ [])) ∷ []))) (Some-of 𝓛 To made w) $
        suffices ! _ (ends_at 𝓛 F.ended stayed (F.clauses 𝓛 at_mem run) z
        (live 1 (of_list (w ∷ []))) (Some made) (tt, tt) (tt, tt)) $ says ! refl $
        nothing ! $ nothing ! $ fjoin ! $ join ! $ nothing ! $ join ! $ done !))))))

    goes : (p : Ptr) → Goes p
    goes null_ptr = at_null
    goes (block_ptr b o) = at_block b o

  walk : (z : W.Ghost) → ent 𝓤 (W.pre z) (WpFn 𝓤 H 𝓣.C 𝓣.Λ code.function (z.0.4.0 ++ []) (W.post z))
  walk z = goes z.0.3.0.alloc z.0.3.0.object z.0.4.0 z.0.3.0.at

pub into_parts_spec : {M : Type 1} → stated.statement M
unfolding tables_of
into_parts_spec 𝓤 𝓛 𝓜 𝓡 wired =
    let 𝓣 : Tables 𝓤 𝓛.H = tables_of 𝓤 𝓛.H 𝓜 (tables 𝓤 𝓛.H 𝓜 𝓡 𝓡.env) in
    entered 𝓤 𝓛.H (triple_of 𝓛 F.signature (F.spec 𝓛 𝓜.mem 𝓡.returns)) 𝓣.C 𝓣.Λ #self code.function
    (code.unfolded 𝓤 𝓛.H 𝓜 𝓡 wired)
    (walk_Meets 𝓛 F.ended stayed (
      Goes-dropped 𝓛 0 From yes (λ κs x f. refl),
      tt,
    ) (F.clauses 𝓛 𝓜.mem 𝓡.returns) (WpFn 𝓤 𝓛.H 𝓣.C 𝓣.Λ code.function)
    (WpFn-mono 𝓤 𝓛.H 𝓛.laws 𝓣 code.function)
    (walk 𝓛 𝓜.mem 𝓡.returns 𝓣))
