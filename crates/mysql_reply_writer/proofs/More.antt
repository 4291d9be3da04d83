-- Another result follows each but the last.
use Rattle.std.proofs.Common.{◌≡◌, ℕ, ◌-◌, Bool, true, false, List, [], ◌∷◌, ◌++◌, drop, length, nat_lt, refl, sym, ap}
use Rattle.std.proofs.Common.{◌∙◌, arith}
use Rattle.std.proofs.lemmas.Bool.{le-ltb, lt-ltb, ltb-false, ltb-true}
use Rattle.std.proofs.Common.{length-drop}
use Rattle.mysql_replies.specs.declared.results.ReplyResult.{ReplyResult}
use Rattle.mysql_replies.specs.Views.{outcome_view, outcome_views}
use Rattle.mysql_reply_writer.specs.Written.{is_some_result, result_steps, results_steps}

some_left : (results : List ReplyResult) → is_some_result (outcome_views results) ≡ nat_lt 0 (length results)
some_left [] = refl
some_left (r ∷ rs) = sym (lt-ltb 0 (length (r ∷ rs)) (omega arith))

less : (j n : ℕ) → nat_lt j n ≡ nat_lt 0 (n - j)
less j n = go (nat_lt j n) refl where
  go : (b : Bool) → nat_lt j n ≡ b → b ≡ nat_lt 0 (n - j)
  go true e = sym (lt-ltb 0 (n - j) (omega (arith, ltb-true j n e)))
  go false e = sym (le-ltb 0 (n - j) (omega (arith, ltb-false j n e)))

pub more_is : (results : List ReplyResult) (j : ℕ) → nat_lt j (length results) ≡
    is_some_result (outcome_views (drop j results))
more_is results j =
    less j (length results) ∙ ap (λ (n : ℕ). nat_lt 0 n) (sym (length-drop j results)) ∙
    sym (some_left (drop j results))

-- the steps of a result and of those behind it
pub first_steps : (results : List ReplyResult) (j : ℕ) (first : ReplyResult)
    → results_steps (outcome_views (first ∷ drop j results)) ≡
    result_steps (nat_lt j (length results)) (outcome_view first) ++
    results_steps (outcome_views (drop j results))
first_steps results j first =
    ap (λ (b : Bool). result_steps b (outcome_view first) ++
    results_steps (outcome_views (drop j results))) (sym (more_is results j))
