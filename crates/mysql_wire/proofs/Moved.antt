-- A step of moving bytes part by part.
use Rattle.std.proofs.Common.{◌≡◌, ℕ, ◌+◌, ◌≤◌, List, ◌++◌, length, take, drop, ap, sym, ◌∙◌, append_assoc, take-add}
use Rattle.std.proofs.Common.{take-take, drop-drop}

-- of a front part of what is left so many bytes were moved
pub moves_part : (all dst0 dst dst' left left' part : List ℕ) (moved len : ℕ) → dst ≡ dst0 ++
    take moved all → left ≡ drop moved all → take (length part) left ≡ part → len ≤ length part →
    dst' ≡ dst ++ take len part → left' ≡ drop len left → (dst' ≡ dst0 ++ take (moved + len) all) ×
    (left' ≡ drop (moved + len) all)
moves_part all dst0 dst dst' left left' part moved len filled rest front fits put gone =
    let next : take len part ≡ take len (drop moved all) = ap (take len) (sym front) ∙
    take-take len _ _ fits ∙ ap (take len) rest in (
      put ∙ ap (λ k. k ++ take len part) filled ∙ append_assoc dst0 (take moved all) (take len part)
          ∙ ap (λ k. dst0 ++ (take moved all ++ k)) next ∙ ap (λ k. dst0 ++ k) (sym (take-add moved len all)),
      gone ∙ ap (drop len) rest ∙ drop-drop len moved all,
    )
