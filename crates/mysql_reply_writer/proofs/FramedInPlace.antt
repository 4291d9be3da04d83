-- A payload that is framed where it stands, behind room for a header.
use Rattle.std.proofs.Common.{◌≡◌, ℕ, ◌+◌, ◌<◌, ◌≤◌, List, [], ◌∷◌, ◌++◌, length, None, refl, sym, ap, ◌∙◌, append-nil}
use Rattle.std.proofs.lemmas.Bool.{le-leb, lt-ltb}
use Rattle.mysql_wire.specs.Framing.{framing, number_after}
use Rattle.mysql_reply_writer.specs.Refusals.{too_large}
use Rattle.mysql_reply_writer.specs.Puts.{Place, Puts}

-- one payload within the limit
pub fits_room : (room payloads : ℕ) (payload : List ℕ) → length payload ≤ room →
    payloads < 18446744073709551615 → too_large room payloads (payload ∷ []) ≡ None
fits_room room payloads payload small few =
    rw (le-leb (length payload) room small, lt-ltb payloads 18446744073709551615 few) refl

abbrev pub place_of : ℕ → ℕ → Place
place_of number payloads = record { number = number; payloads = payloads }

-- a payload was framed
pub framed_put : (room number payloads next count : ℕ) (payload before after : List ℕ) →
    too_large room payloads (payload ∷ []) ≡ None
    → after ≡ before ++ framing payload number → next ≡ number_after payload number → count ≡
    payloads + 1 → Puts room (place_of number payloads) (payload ∷ []) (place_of next count)
    before after
framed_put room number payloads next count payload before after fit put follows counted = record {
  fit = fit;
  place = ap (λ (n : ℕ). place_of n count) follows ∙ ap (place_of (number_after payload number)) counted;
  appended = put ∙ ap (λ l. before ++ l) (sym (append-nil (framing payload number)));
}
