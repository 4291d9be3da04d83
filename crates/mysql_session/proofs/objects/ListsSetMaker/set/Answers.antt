use Rattle.std.proofs.Common.{◌≡◌, ◌∙◌, ◌<◌, [], Global, Some, Vec, ap, arith, length, map, rules, subst, sym}
use Rattle.std.specs.Prelude.{MatchResult}
use Rattle.mysql_convert.specs.Sets.{IsMadeOf, too_long}
use Rattle.mysql_convert.specs.Sets.Parts.{InOrder}
use Rattle.mysql_session.proofs.ObjectSets.{as_many, set_at}
use Rattle.mysql_session.proofs.OnAnswers.{if_ok}
use Rattle.mysql_session.proofs.objects.ListsSetMaker.set.Goals as goal

pub bounds-self-number : goal.bounds-self-number
bounds-self-number g c = omega (
  arith,
  c.requires [],
  as_many (λ list. map g.T.ToValue.as_value list.items) c.args.self.now.lists.now [],
)

pub offset_bounds-self-number : goal.offset_bounds-self-number
offset_bounds-self-number g c = let inside : c.args.number < length c.args.self.now.lists.now =
    omega (
      arith,
      c.requires [],
      as_many (λ list. map g.T.ToValue.as_value list.items) c.args.self.now.lists.now [],
    ) in
    search rules

pub returns-clause-at : goal.returns-clause-at
returns-clause-at g c =
    let inside : c.args.number < length c.args.self.now.lists.now =
    omega (
      arith,
      c.requires [],
      as_many (λ list. map g.T.ToValue.as_value list.items) c.args.self.now.lists.now [],
    ) in
    if_ok c.set_or_refusal.result
    (λ made this. set_at (λ list. map g.T.ToValue.as_value list.items) c.args.self.now.lists.now
    c.args.number c.index-self-number.result made inside c.index-self-number.is
    (subst (λ objects. MatchResult made
    (λ params. IsMadeOf (InOrder (map g.T.ToValue.as_value objects)) params)
    (λ error. too_long 0 (map g.T.ToValue.as_value objects) ≡ Some error))
    (c.deref.ensures.value ∙ ap (λ (list : Vec g.row.T.Denot Global). list.items)
    (sym c.index-self-number.is)) this))
    c.set_or_refusal.ensures.made
