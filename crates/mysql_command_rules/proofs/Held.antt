-- What values hold, and the contents of sets of which none has a float.
use Rattle.std.proofs.Common.{◌≡◌, ℕ, List, [], ◌∷◌, ◌++◌, map, take, zero, suc, Some, refl, sym, ◌∙◌, ap, unwrap_or}
use Rattle.std.specs.List.{AllByRecursion, AllZip, flat_map}
use Rattle.std.proofs.lemmas.List.{map-append}
use Rattle.mysql_values.specs.Content.{Content}
use Rattle.mysql_values.specs.Content.TheVariants as content
use Rattle.mysql_values.specs.Value.{Value}
use Rattle.mysql_values.specs.Values.{content_of}
use Rattle.mysql_receive.specs.Reading.{Set}
use Rattle.mysql_command_rules.specs.Reading.{HaveContents}
use Rattle.mysql_command_rules.specs.Sent.{SentPayload, sets_of}

-- what a value holds that is no float
abbrev pub held : Value → Content
held value = unwrap_or (content_of value) content.Null

-- what the sets hold that stand whole with each payload
abbrev pub contents_of : List SentPayload → List (List Set)
contents_of sent = map (λ s. map (map held) s.sets) sent

-- no value of a set is a float
abbrev pub HoldsAll : List Value → Type 0
HoldsAll values = map content_of values ≡ map Some (map held values)

-- the contents of values are what they hold
pub what_is_held : (values : List Value) (contents : List Content) → map content_of values ≡
    map Some contents → contents ≡ map held values
what_is_held [] [] each = refl
what_is_held [] (first ∷ contents) each = cc
what_is_held (value ∷ values) [] each = cc
what_is_held (value ∷ values) (first ∷ contents) each =
    let here : content_of value ≡ Some first = cc in
    let others : map content_of values ≡ map Some contents = cc in
    ap (λ c. c ∷ contents) (sym (ap (λ o. unwrap_or o content.Null) here)) ∙
    ap (λ l. held value ∷ l) (what_is_held values contents others)

-- sets of which none has a float have the contents that they hold
held_contents : (sets : List (List Value)) → AllByRecursion HoldsAll sets → HaveContents sets (map (map held) sets)
held_contents [] all = refl
held_contents (values ∷ sets) all = ap (λ l. l ∷ map (map content_of) sets) all.0 ∙
    ap (λ l. map Some (map held values) ∷ l) (held_contents sets all.1)

-- what holds of each of two lists' elements holds of the elements of both
pub all_append : {X : Type 0} (P : X → Type 0) (xs ys : List X) → AllByRecursion P xs →
    AllByRecursion P ys → AllByRecursion P (xs ++ ys)
all_append P [] ys first second = second
all_append P (x ∷ xs) ys first second = (first.0, all_append P xs ys first.1 second)

-- and the other way round
pub all_parts : {X : Type 0} (P : X → Type 0) (xs ys : List X) → AllByRecursion P (xs ++ ys) →
    AllByRecursion P xs × AllByRecursion P ys
all_parts P [] ys all = (tt, all)
all_parts P (x ∷ xs) ys all = let parts = all_parts P xs ys all.1 in ((all.0, parts.0), parts.1)

-- the sets of payloads of which none has a float have the contents that they hold, payload by payload
pub contents_each : (sent : List SentPayload) → AllByRecursion HoldsAll (sets_of sent) →
    AllZip (λ payload sets. HaveContents payload.sets sets) sent (contents_of sent)
contents_each [] all = tt
contents_each (payload ∷ sent) all =
    let parts = all_parts HoldsAll payload.sets (sets_of sent) all in
    (held_contents payload.sets parts.0, contents_each sent parts.1)

-- the contents of sets and of others behind them
pub contents_append : (sets others : List (List Value)) (contents later : List Set) →
    HaveContents sets contents → HaveContents others later →
    HaveContents (sets ++ others) (contents ++ later)
contents_append sets others contents later first second =
    map-append (map content_of) sets others ∙ ap (λ l. l ++ map (map content_of) others) first ∙
    ap (λ l. map (map Some) contents ++ l) second ∙ sym (map-append (map Some) contents later)

-- what the payloads' sets have, in a row
pub contents_in_a_row : (sent : List SentPayload) (reads : List (List Set)) →
    AllZip (λ payload sets. HaveContents payload.sets sets) sent reads →
    HaveContents (sets_of sent) (flat_map (λ sets. sets) reads)
contents_in_a_row [] [] each = refl
contents_in_a_row [] (sets ∷ reads) each = absurd each
contents_in_a_row (payload ∷ sent) [] each = absurd each
contents_in_a_row (payload ∷ sent) (sets ∷ reads) each =
    contents_append payload.sets (sets_of sent) sets (flat_map (λ sets. sets) reads) each.0
    (contents_in_a_row sent reads each.1)

-- so with the first ones
pub first_zip : {X Y : Type 0} (R : X → Y → Type 0) (k : ℕ) (xs : List X) (ys : List Y) →
    AllZip R xs ys → AllZip R (take k xs) (take k ys)
first_zip R zero xs ys each = tt
first_zip R (suc k) [] [] each = tt
first_zip R (suc k) [] (y ∷ ys) each = absurd each
first_zip R (suc k) (x ∷ xs) [] each = absurd each
first_zip R (suc k) (x ∷ xs) (y ∷ ys) each = (each.0, first_zip R k xs ys each.1)

-- where a function tells its arguments apart, so does its map
pub map_tells : {X Y : Type 0} (f : X → Y) → ((x y : X) → f x ≡ f y → x ≡ y) → (xs ys : List X) →
    map f xs ≡ map f ys → xs ≡ ys
map_tells f tells [] [] same = refl
map_tells f tells [] (y ∷ ys) same = cc
map_tells f tells (x ∷ xs) [] same = cc
map_tells f tells (x ∷ xs) (y ∷ ys) same =
    let first : f x ≡ f y = cc in
    let others : map f xs ≡ map f ys = cc in
    ap (λ z. z ∷ xs) (tells x y first) ∙ ap (λ l. y ∷ l) (map_tells f tells xs ys others)

one_content : (x y : Content) → Some x ≡ Some y → x ≡ y
one_content x y same = cc

-- sets of values have one list of contents
pub one_contents : (contents others : List Set) → map (map Some) contents ≡ map (map Some) others → contents ≡ others
one_contents contents others same = map_tells (map Some) (map_tells Some one_content) contents others same
