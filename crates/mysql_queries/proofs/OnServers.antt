-- What servers make of texts of a query whose placeholders stand alone.
use Rattle.std.proofs.Common.{◌≡◌, ◌≢◌, ℕ, zero, suc, ◌+◌, ◌-◌, Bool, true, false, not, ◌&&◌, ◌||◌, ◌==◌, ◌⊎◌}
use Rattle.std.proofs.Common.{if◌then◌else◌, List, [], ◌∷◌, ◌++◌, length, map, take, drop, flat_map, refl, sym, ap, ◌∙◌}
use Rattle.std.proofs.Common.{inl, inr, append_assoc, append-nil, arith, subst, length-append}
use Rattle.std.specs.List.{AllByRecursion, concat, prefix_len}
use Rattle.std.proofs.lemmas.Bool.Decides.{nat_tests}
use Rattle.mysql_queries.specs.Tokens.{AreTokens, BlockComment, Closing, EndsBlock, HasNoEnd, HasShape, HasTokens}
use Rattle.mysql_queries.specs.Tokens.{IsBlockComment, IsToken, Kind, Opening, begins_end, comment_end, comment_start}
use Rattle.mysql_queries.specs.Tokens.{exclamation, goes_on_as_block, goes_on_as_opening, is_digit, is_simple}
use Rattle.mysql_queries.specs.Tokens.{is_simple_byte, kind_of, slash, star}
use Rattle.mysql_queries.specs.Alone.{agree_at, begins, is_opening, is_run, last_of, servers_agree}
use Rattle.mysql_queries.specs.Servers.{AreTokensAt, CountsWhileSkipping, HasTokensAt, IsCounted, IsTokenAt, Runs}
use Rattle.mysql_queries.specs.Servers.{Server, SkipsToFirstEnd, TakesToken, TakesVersion, begins_version, open_behind}
use Rattle.mysql_queries.specs.Servers.{runs, runs_behind, taken_apart, tokens_at}
use Rattle.mysql_queries.specs.Laws.{AloneIsAgreed, NoVersionIsRead, ServersReadAlike}
use Rattle.mysql_queries.specs.Queries.{AllAlone, Slices, places_behind, places_of, is_place}
use Rattle.mysql_queries.specs.Scanning.{is_plain}
use Rattle.mysql_queries.specs.Sql.{Sql}
use Rattle.mysql_bytes.specs.declared.content.Content.{Content}
use Rattle.mysql_bytes.specs.declared.mode.Mode.{Mode}
use Rattle.mysql_queries.proofs.AloneKinds.{block_kind, plain_token}
use Rattle.mysql_queries.proofs.Filled.{AreAlone, FixedFrom, HasNoPlace, Lexed, Spells, agrees_or_none, alone_from}
use Rattle.mysql_queries.proofs.Filled.{fixed_lexed, fixed_or_none, lexed, not_true, opening_there, space}
use Rattle.mysql_queries.proofs.Filled.{spells_itself}
use Rattle.mysql_queries.proofs.FirstBytes.{and_true, bool_tells, opening_second, same_number}
use Rattle.mysql_queries.proofs.Follow.{BeginsFixed, and_false, not_equal, opening_kind}
use Rattle.mysql_queries.proofs.OneToken.{not_empty, one_shape, one_token}
use Rattle.mysql_queries.proofs.Pieces.{pieces_spell}
use Rattle.mysql_queries.proofs.Prefixes.{behind_more, behind_stop}
use Rattle.mysql_queries.proofs.Readings.{one_tokens}
use Rattle.mysql_queries.proofs.Spellings.{apart_bytes}

-- SERVERS AGREE ABOUT A QUERY

no_places : (q : Sql) (agree : Bool) (bs : List (List ℕ)) (start : ℕ) (ts : List (List ℕ)) →
    HasNoPlace ts → places_behind q agree bs start ts ≡ []
no_places q agree bs start [] n = refl
no_places q agree bs start (t ∷ ts) n = let p : is_place t ≡ false = n.0 in
    rw p (no_places q agree (t ∷ bs) (start + length t) ts n.1)

pub alone_is_agreed : AloneIsAgreed
alone_is_agreed query tokens h a some =
    let k : AreAlone (places_of query tokens) = a (places_of query tokens) (tokens, h, refl) in
    elim (agrees_or_none query (servers_agree 0 tokens) [] 0 tokens k) [
      | inl g ↦ g
      | inr n ↦ absurd (some (no_places query (servers_agree 0 tokens) [] 0 tokens n))
    ]

run_no_digit : (ts : List (List ℕ)) → is_run ts ≡ true → begins is_digit (concat ts) ≡ false
run_no_digit ts h = not_true (begins is_digit (concat ts)) (and_true (not (begins is_digit (concat ts))) _ h).0

no_version_from : (last : ℕ) (before : List (List ℕ)) (token : List ℕ) (behind : List (List ℕ)) →
    servers_agree last (before ++ token ∷ behind) ≡ true → is_opening token ≡ true →
    begins is_digit (concat behind) ≡ false
no_version_from last [] token behind h o =
    let a : agree_at last token behind ≡ true = (and_true (agree_at last token behind) _ h).0 in
    let k : (not (is_opening token) || is_run behind) ≡ true =
    (and_true _ (not (is_opening token) || is_run behind) a).1 in
    let l : is_run behind ≡ true = rw o at k in run_no_digit behind l
no_version_from last (t ∷ before) token behind h o =
    no_version_from (last_of last t) before token behind
    (and_true (agree_at last t (before ++ token ∷ behind)) _ h).1 o

pub no_version_is_read : NoVersionIsRead
no_version_is_read before token behind h o = no_version_from 0 before token behind h o

-- A COMMENT WITH A VERSION

abbrev AreSimple : List ℕ → Type 0
AreSimple bytes = AllByRecursion (λ b. is_simple_byte b ≡ true) bytes

-- it is simple, and this token
record IsVersion (t : List ℕ) : Type 0 where
  digit : ℕ
  bytes : List ℕ
  is : is_digit digit ≡ true
  each : AreSimple bytes
  spelled : t ≡ slash ∷ star ∷ exclamation ∷ digit ∷ (bytes ++ comment_end)

abbrev behind_simple : List ℕ → List ℕ
behind_simple y = drop (prefix_len is_simple_byte y) y

end_first : (y : List ℕ) → begins_end y ≡ true → (r : List ℕ) × (y ≡ comment_end ++ r)
end_first [] h = cc
end_first (a ∷ []) h = cc
end_first (a ∷ b ∷ y) h =
    let k : ((a == star) ≡ true) × ((b == slash) ≡ true) = and_true (a == star) (b == slash) h in
    let e : a ≡ star = same_number a star k.0 in
    let f : b ≡ slash = same_number b slash k.1 in (y, cc)

simple_split : (y : List ℕ) → begins_end (behind_simple y) ≡ true → (s r : List ℕ) × AreSimple s ×
    (y ≡ s ++ (comment_end ++ r))
simple_split [] h = cc
simple_split (b ∷ y) h = elim (bool_tells (is_simple_byte b)) [
  | inl s ↦ (let k : begins_end (behind_simple y) ≡ true = ap begins_end (sym (behind_more is_simple_byte b y s)) ∙ h in
      let o : (s r : List ℕ) × AreSimple s × (y ≡ s ++ (comment_end ++ r)) = simple_split y k in
      (b ∷ o.0, o.1, (s, o.2), ap (λ z. b ∷ z) o.3))
  | inr s ↦ (let k : begins_end (b ∷ y) ≡ true = ap begins_end (sym (behind_stop is_simple_byte b y s)) ∙ h in
      let o : (r : List ℕ) × (b ∷ y ≡ comment_end ++ r) = end_first (b ∷ y) k in ([], o.0, tt, o.1))
]

simple_no_star : (b : ℕ) → is_simple_byte b ≡ true → b ≢ star
simple_no_star b h e = apart_bytes is_simple_byte b star h refl e

simple_no_slash : (b : ℕ) → is_simple_byte b ≡ true → b ≢ slash
simple_no_slash b h e = apart_bytes is_simple_byte b slash h refl e

no_end_simple : (s : List ℕ) → AreSimple s → HasNoEnd (s ++ star ∷ [])
no_end_simple [] h = tt
no_end_simple (b ∷ []) h = ((λ e. absurd (simple_no_star b h.0 e)), tt)
no_end_simple (b ∷ c ∷ s) h = ((λ e. absurd (simple_no_star b h.0 e)), no_end_simple (c ∷ s) h.1)

digit_simple : (d : ℕ) → is_digit d ≡ true → is_simple_byte d ≡ true
digit_simple d h = grind (arith, nat_tests)

-- what begins one
version_first : (text : List ℕ) → begins_version text ≡ true → (d : ℕ) × (y : List ℕ) ×
    (is_digit d ≡ true) × (text ≡ slash ∷ star ∷ exclamation ∷ d ∷ y)
version_first [] h = cc
version_first (b ∷ x) h =
    let k : (((b == slash) && goes_on_as_opening x) ≡ true) × (begins is_digit (drop 2 x) ≡ true) =
    and_true ((b == slash) && goes_on_as_opening x) (begins is_digit (drop 2 x)) h in
    let l : ((b == slash) ≡ true) × (goes_on_as_opening x ≡ true) = and_true (b == slash) (goes_on_as_opening x) k.0 in
    let o : (y : List ℕ) × (x ≡ star ∷ exclamation ∷ y) = opening_second x l.1 in
    let m : begins is_digit o.0 ≡ true = subst (λ z. begins is_digit (drop 2 z) ≡ true) o.1 k.1 in
    let p : (d : ℕ) × (y : List ℕ) × (is_digit d ≡ true) × (o.0 ≡ d ∷ y) = digit_first o.0 m in (
      p.0,
      p.1,
      p.2,
      ap (λ c. c ∷ x) (same_number b slash l.0) ∙
          ap (λ z. slash ∷ z) (o.1 ∙ ap (λ z. star ∷ exclamation ∷ z) p.3),
    )
  where
    digit_first : (x : List ℕ) → begins is_digit x ≡ true → (d : ℕ) × (y : List ℕ) × (is_digit d ≡ true) × (x ≡ d ∷ y)
    digit_first [] h = cc
    digit_first (d ∷ y) h = (d, y, h, refl)

version_block : (d : ℕ) (y : List ℕ) → is_simple (d ∷ y) ≡ true → goes_on_as_block (star ∷ exclamation ∷ d ∷ y) ≡ true
version_block d y h = h

-- a token that begins one, where what begins a comment whose inside is read is followed by no digit
version_token : (m : Mode) (t r : List ℕ) → IsToken m t r → (is_opening t ≡ true → BeginsFixed r) →
    begins_version (t ++ r) ≡ true → IsVersion t × IsBlockComment t r
version_token m t r i f h =
    let o : (d : ℕ) × (y : List ℕ) × (is_digit d ≡ true) ×
    (t ++ r ≡ slash ∷ star ∷ exclamation ∷ d ∷ y) = version_first (t ++ r) h in
    elim (bool_tells (is_simple (o.0 ∷ o.1))) [
      | inr n ↦ (let k : kind_of (t ++ r) ≡ Opening = ap kind_of o.3 ∙
          opening_kind (star ∷ exclamation ∷ o.0 ∷ o.1) n refl in
          let u : t ≡ comment_start = subst (λ j. HasShape m j t r) k i in
          let e : comment_start ++ r ≡ comment_start ++ (o.0 ∷ o.1) = ap (λ z. z ++ r) (sym u) ∙ o.3 in
          let g : r ≡ o.0 ∷ o.1 = cc in
          let x : BeginsFixed (o.0 ∷ o.1) = subst BeginsFixed g (f (opening_there m t r i k)) in
          let w : true ≡ false = sym o.2 ∙ x.0 in cc)
      | inl s ↦ (let k : kind_of (t ++ r) ≡ BlockComment = ap kind_of o.3 ∙
          block_kind (star ∷ exclamation ∷ o.0 ∷ o.1) (version_block o.0 o.1 s) in
          let c : IsBlockComment t r = subst (λ j. HasShape m j t r) k i in
          let p : (s q : List ℕ) × AreSimple s × (o.1 ≡ s ++ (comment_end ++ q)) =
          simple_split o.1 (and_true (is_digit o.0) _ s).1 in
          let inside : List ℕ = exclamation ∷ o.0 ∷ p.0 in
          let whole : List ℕ = slash ∷ star ∷ (inside ++ comment_end) in
          let b : IsBlockComment whole p.1 = record {
            inside = inside;
            closing = comment_end;
            spelled = refl;
            ends = inl (refl, no_end_simple inside (refl, (digit_simple o.0 o.2, p.2)));
          } in
          let e : t ++ r ≡ whole ++ p.1 = o.3 ∙
          ap (λ z. slash ∷ star ∷ exclamation ∷ o.0 ∷ z) (p.3 ∙
          sym (append_assoc p.0 comment_end p.1)) in
          let same : (t ≡ whole) × (r ≡ p.1) = one_shape m BlockComment tt t r whole p.1 c b e in
          (record { digit = o.0; bytes = p.0; is = o.2; each = p.2; spelled = same.0 }, c))
    ]

-- a server that counts comments inside finds none in it
open_simple : (s : List ℕ) → AreSimple s → open_behind 1 s ≡ 1
open_simple [] h = refl
open_simple (b ∷ []) h = refl
open_simple (b ∷ c ∷ s) h =
    rw (not_equal b star (simple_no_star b h.0), not_equal b slash (simple_no_slash b h.0))
    (open_simple (c ∷ s) h.1)

open_star : (s : List ℕ) → AreSimple s → open_behind 1 (s ++ star ∷ []) ≡ 1
open_star [] h = refl
open_star (b ∷ []) h = rw (not_equal b star (simple_no_star b h.0), not_equal b slash (simple_no_slash b h.0)) refl
open_star (b ∷ c ∷ s) h =
    rw (not_equal b star (simple_no_star b h.0), not_equal b slash (simple_no_slash b h.0))
    (open_star (c ∷ s) h.1)

open_end : (s : List ℕ) → AreSimple s → open_behind 1 (s ++ comment_end) ≡ 0
open_end [] h = refl
open_end (b ∷ []) h = rw (not_equal b star (simple_no_star b h.0), not_equal b slash (simple_no_slash b h.0)) refl
open_end (b ∷ c ∷ s) h = rw (
  not_equal b star (simple_no_star b h.0),
  not_equal b slash (simple_no_slash b h.0),
) (open_end (c ∷ s) h.1)

-- what stands before the last byte of simple bytes and an end
record EndsShort (s before : List ℕ) : Type 0 where
  bytes : List ℕ
  each : AreSimple bytes
  is : (before ≡ bytes) ⊎ (before ≡ bytes ++ star ∷ [])

ends_short : (s before after : List ℕ) → AreSimple s → s ++ comment_end ≡ before ++ after →
    after ≢ [] → EndsShort s before
ends_short s [] after h e n = record { bytes = []; each = tt; is = inl refl }
ends_short [] (b ∷ []) after h e n = let f : b ≡ star = cc in
    record { bytes = []; each = tt; is = inr (ap (λ c. c ∷ []) f) }
ends_short [] (b ∷ c ∷ []) [] h e n = absurd (n refl)
ends_short [] (b ∷ c ∷ []) (d ∷ after) h e n = cc
ends_short [] (b ∷ c ∷ d ∷ before) after h e n = cc
ends_short (a ∷ s) (b ∷ before) after h e n =
    let f : b ≡ a = cc in
    let g : s ++ comment_end ≡ before ++ after = cc in
    let o : EndsShort s before = ends_short s before after h.1 g n in
    record {
      bytes = b ∷ o.bytes;
      each = (ap is_simple_byte f ∙ h.0, o.each);
      is = elim o.is [ inl k ↦ inl (ap (λ z. b ∷ z) k) | inr k ↦ inr (ap (λ z. b ∷ z) k) ];
    }

short_open : (s before : List ℕ) → EndsShort s before → open_behind 1 before ≢ 0
short_open s before o z = elim o.is [
  | inl e ↦ (let f : open_behind 1 before ≡ 1 = ap (open_behind 1) e ∙ open_simple o.bytes o.each in
      absurd (omega (arith, f, z)))
  | inr e ↦ (let f : open_behind 1 before ≡ 1 = ap (open_behind 1) e ∙ open_star o.bytes o.each in
      absurd (omega (arith, f, z)))
]

version_counted : (t r : List ℕ) → IsVersion t → IsCounted t r
version_counted t r v =
    let each : AreSimple (v.digit ∷ v.bytes) = (digit_simple v.digit v.is, v.each) in
    record {
      inside = v.digit ∷ (v.bytes ++ comment_end);
      spelled = v.spelled;
      still_open = λ before after e n. short_open (v.digit ∷
          v.bytes) before (ends_short (v.digit ∷ v.bytes) before after each e n);
      closed = inl (open_end (v.digit ∷ v.bytes) each);
    }

-- EACH SERVER

skips_version : (server : Server) → runs server ≡ false → (t r : List ℕ) → IsVersion t →
    IsBlockComment t r → TakesVersion server t r
skips_version Runs s t r v b = cc
skips_version SkipsToFirstEnd s t r v b = b
skips_version CountsWhileSkipping s t r v b = version_counted t r v

-- a server that skips has the tokens themselves
skipped : (server : Server) → runs server ≡ false → (m : Mode) (ts : List (List ℕ)) →
    AreTokens m ts → FixedFrom ts → AreTokensAt server m false ts
skipped server s m [] i f = tt
skipped server s m (t ∷ ts) i f = elim (bool_tells (begins_version (t ++ concat ts))) [
  | inl v ↦ (let o : IsVersion t × IsBlockComment t (concat ts) = version_token m t (concat ts) i.0 f.0 v in
      rw (v, s) (skips_version server s t (concat ts) o.0 o.1, skipped server s m ts i.1 f.1))
  | inr v ↦ (rw v (i.0, skipped server s m ts i.1 f.1))
]

-- the inside of one that the server runs
abbrev singles : List ℕ → List (List ℕ)
singles bytes = map (λ b. b ∷ []) bytes

concat_singles : (x : List ℕ) (us : List (List ℕ)) → concat (singles x ++ us) ≡ x ++ concat us
concat_singles [] us = refl
concat_singles (b ∷ x) us = ap (λ y. b ∷ y) (concat_singles x us)

simple_plain : (b : ℕ) → is_simple_byte b ≡ true → is_plain b ≡ true
simple_plain b h = grind (arith, nat_tests)

no_version : (b : ℕ) (x : List ℕ) → b ≢ slash → begins_version (b ∷ x) ≡ false
no_version b x n = rw (not_equal b slash n) refl

no_end : (b : ℕ) (x : List ℕ) → b ≢ star → begins_end (b ∷ x) ≡ false
no_end b [] n = refl
no_end b (c ∷ x) n = rw (not_equal b star n) refl

inside_run : (m : Mode) (x : List ℕ) (us : List (List ℕ)) → AreSimple x →
    AreTokensAt Runs m false us → AreTokensAt Runs m true (singles x ++ comment_end ∷ us)
inside_run m [] us h k = (refl, k)
inside_run m (b ∷ x) us h k =
    let rest : List ℕ = concat (singles x ++ comment_end ∷ us) in
    rw (no_version b rest (simple_no_slash b h.0), no_end b rest (simple_no_star b h.0))
    (plain_token m b rest (simple_plain b h.0), inside_run m x us h.1 k)

version_begins : (d : ℕ) (x : List ℕ) → is_digit d ≡ true → begins_version (comment_start ++ (d ∷ x)) ≡ true
version_begins d x h = h

run_version : (m : Mode) (d : ℕ) (s : List ℕ) (us : List (List ℕ)) → is_digit d ≡ true →
    AreSimple s → AreTokensAt Runs m false us →
    AreTokensAt Runs m false (comment_start ∷ (singles (d ∷ s) ++ comment_end ∷ us))
run_version m d s us e h k =
    let v : begins_version (comment_start ++ concat (singles (d ∷ s) ++ comment_end ∷ us)) ≡ true =
    version_begins d (concat (singles s ++ comment_end ∷ us)) e in
    rw v (refl, inside_run m (d ∷ s) us (digit_simple d e, h) k)

take_front : (x y : List ℕ) → take (length x) (x ++ y) ≡ x
take_front [] y = refl
take_front (b ∷ x) y = ap (λ z. b ∷ z) (take_front x y)

apart_is : (d : ℕ) (s : List ℕ) →
    taken_apart (slash ∷ star ∷ exclamation ∷ d ∷ (s ++ comment_end)) ≡ comment_start ∷
    (singles (d ∷ s) ++ comment_end ∷ [])
apart_is d s =
    let n : length (slash ∷ star ∷ exclamation ∷ d ∷ (s ++ comment_end)) - 2 ≡
    length (slash ∷ star ∷ exclamation ∷ d ∷ s) = omega (arith, length-append s comment_end) in
    let e : take (length (slash ∷ star ∷ exclamation ∷ d ∷ (s ++ comment_end)) - 2) (slash ∷ star ∷
    exclamation ∷ d ∷ (s ++ comment_end)) ≡ slash ∷ star ∷ exclamation ∷ d ∷ s =
    ap (λ k. take k (slash ∷ star ∷ exclamation ∷ d ∷ (s ++ comment_end))) n ∙
    take_front (slash ∷ star ∷ exclamation ∷ d ∷ s) comment_end in
    ap (λ z. comment_start ∷ (singles (drop 3 z) ++ comment_end ∷ [])) e

still_version : (t r : List ℕ) → begins_version t ≡ true → begins_version (t ++ r) ≡ true
still_version t r h =
    let o : (d : ℕ) × (y : List ℕ) × (is_digit d ≡ true) ×
    (t ≡ slash ∷ star ∷ exclamation ∷ d ∷ y) = version_first t h in
    ap (λ z. begins_version (z ++ r)) o.3 ∙ version_begins o.0 (o.1 ++ r) o.2

abbrev run_list : List (List ℕ) → List (List ℕ)
run_list ts = tokens_at Runs ts

version_itself : (t : List ℕ) → IsVersion t → begins_version t ≡ true
version_itself t v = ap begins_version v.spelled ∙ version_begins v.digit (v.bytes ++ comment_end) v.is

-- one that runs them takes each apart
record RunsAll (m : Mode) (ts : List (List ℕ)) : Type 0 where
  joined : concat (run_list ts) ≡ concat ts
  each : AreTokensAt Runs m false (run_list ts)

run_all : (m : Mode) (ts : List (List ℕ)) → AreTokens m ts → FixedFrom ts → RunsAll m ts
run_all m [] i f = record { joined = refl; each = tt }
run_all m (t ∷ ts) i f =
    let o : RunsAll m ts = run_all m ts i.1 f.1 in
    elim (bool_tells (begins_version (t ++ concat ts))) [
      | inl v ↦ (let k : IsVersion t × IsBlockComment t (concat ts) = version_token m t (concat ts) i.0 f.0 v in
          let u = k.0 in
          let w : begins_version t ≡ true = version_itself t u in
          let e : run_list (t ∷ ts) ≡ comment_start ∷ (singles (u.digit ∷ u.bytes) ++ comment_end ∷ run_list ts) =
          rw w (ap (λ z. z ++ run_list ts) (ap taken_apart u.spelled ∙ apart_is u.digit u.bytes)
          ∙ ap (λ z. comment_start ∷
          z) (append_assoc (singles (u.digit ∷ u.bytes)) (comment_end ∷ []) (run_list ts))) in
          let joined : concat (comment_start ∷
          (singles (u.digit ∷ u.bytes) ++ comment_end ∷ run_list ts)) ≡ t ++ concat ts =
          ap (λ z. comment_start ++
          z) (concat_singles (u.digit ∷ u.bytes) (comment_end ∷ run_list ts)) ∙
          ap (λ z. comment_start ++ ((u.digit ∷ u.bytes) ++ (comment_end ++ z))) o.joined
          ∙ ap (λ z. comment_start ++
          z) (sym (append_assoc (u.digit ∷ u.bytes) comment_end (concat ts))) ∙
          ap (λ z. z ++ concat ts) (sym u.spelled) in
          record {
            joined = ap concat e ∙ joined;
            each =
                subst (AreTokensAt Runs m false) (sym e)
                (run_version m u.digit u.bytes (run_list ts) u.is u.each o.each);
          })
      | inr v ↦ (let w : begins_version t ≡ false = elim (bool_tells (begins_version t)) [
        | inl x ↦ (let y : true ≡ false = sym (still_version t (concat ts) x) ∙ v in cc)
        | inr x ↦ x
      ] in
          let e : run_list (t ∷ ts) ≡ t ∷ run_list ts = rw w refl in
          let n : begins_version (t ++ concat (run_list ts)) ≡ false = ap (λ z. begins_version (t ++ z)) o.joined ∙ v in
          let k : IsToken m t (concat (run_list ts)) = subst (IsToken m t) (sym o.joined) i.0 in
          let each : AreTokensAt Runs m false (t ∷ run_list ts) = rw n (k, o.each) in
          record {
            joined = ap concat e ∙ ap (λ z. t ++ z) o.joined;
            each =
                subst (AreTokensAt Runs m false) (sym e) each;
          })
    ]

-- ONE LIST AT EACH

lists_tell : (i r j q : List ℕ) → i ++ r ≡ j ++ q → ((x : List ℕ) × (j ≡ i ++ x) × (r ≡ x ++ q)) ⊎
    ((x : List ℕ) × (i ≡ j ++ x) × (q ≡ x ++ r))
lists_tell [] r j q e = inl (j, refl, e)
lists_tell (b ∷ i) r [] q e = inr (b ∷ i, refl, sym e)
lists_tell (b ∷ i) r (c ∷ j) q e =
    let f : b ≡ c = cc in
    let g : i ++ r ≡ j ++ q = cc in
    elim (lists_tell i r j q g) [
      | inl o ↦ inl (o.0, ap (λ d. d ∷ j) (sym f) ∙ ap (λ z. b ∷ z) o.1, o.2)
      | inr o ↦ inr (o.0, ap (λ d. d ∷ i) f ∙ ap (λ z. c ∷ z) o.1, o.2)
    ]

longer : (t r u q i : List ℕ) → (k : IsCounted t r) (l : IsCounted u q) → (x : List ℕ) → l.inside ≡
    k.inside ++ x → r ≡ x ++ q → x ≡ []
longer t r u q i k l [] e f = refl
longer t r u q i k l (b ∷ x) e f = elim k.closed [
  | inl z ↦ absurd (l.still_open k.inside (b ∷ x) e (λ n. cc) z)
  | inr n ↦ (let g : [] ≡ b ∷ (x ++ q) = sym n ∙ f in cc)
]

one_counted : (t r u q : List ℕ) → IsCounted t r → IsCounted u q → t ++ r ≡ u ++ q → (t ≡ u) × (r ≡ q)
one_counted t r u q k l e =
    let f : comment_start ++ (k.inside ++ r) ≡ comment_start ++ (l.inside ++ q) =
    sym (append_assoc comment_start k.inside r) ∙ ap (λ z. z ++ r) (sym k.spelled) ∙ e ∙
    ap (λ z. z ++ q) l.spelled ∙ append_assoc comment_start l.inside q in
    let g : k.inside ++ r ≡ l.inside ++ q = cc in
    elim (lists_tell k.inside r l.inside q g) [
      | inl o ↦ (let n : o.0 ≡ [] = longer t r u q [] k l o.0 o.1 o.2 in
          let s : l.inside ≡ k.inside = o.1 ∙ ap (λ z. k.inside ++ z) n ∙ append-nil k.inside in
          (k.spelled ∙ ap (λ z. comment_start ++ z) (sym s) ∙ sym l.spelled, o.2 ∙ ap (λ z. z ++ q) n))
      | inr o ↦ (let n : o.0 ≡ [] = longer u q t r [] l k o.0 o.1 o.2 in
          let s : k.inside ≡ l.inside = o.1 ∙ ap (λ z. l.inside ++ z) n ∙ append-nil l.inside in
          (k.spelled ∙ ap (λ z. comment_start ++ z) s ∙ sym l.spelled, sym (o.2 ∙ ap (λ z. z ++ r) n)))
    ]

same_front : (x t r u q : List ℕ) → t ≡ x → u ≡ x → t ++ r ≡ u ++ q → (r ≡ q)
same_front x t r u q e f h = fronts x r q (ap (λ z. z ++ r) (sym e) ∙ h ∙ ap (λ z. z ++ q) f)
  where
    fronts : (x r q : List ℕ) → x ++ r ≡ x ++ q → r ≡ q
    fronts [] r q h = h
    fronts (b ∷ x) r q h = let k : x ++ r ≡ x ++ q = cc in fronts x r q k

one_version : (server : Server) (m : Mode) (t r u q : List ℕ) → TakesVersion server t r →
    TakesVersion server u q → t ++ r ≡ u ++ q → (t ≡ u) × (r ≡ q)
one_version Runs m t r u q k l e = (k ∙ sym l, same_front comment_start t r u q k l e)
one_version SkipsToFirstEnd m t r u q k l e = one_shape m BlockComment tt t r u q k l e
one_version CountsWhileSkipping m t r u q k l e = one_counted t r u q k l e

one_there : (server : Server) (m : Mode) (running v w : Bool) (t r u q : List ℕ) →
    TakesToken server m v w t r → TakesToken server m v w u q → t ++ r ≡ u ++ q → (t ≡ u) × (r ≡ q)
one_there server m running true w t r u q k l e = one_version server m t r u q k l e
one_there server m running false true t r u q k l e = (k ∙ sym l, same_front comment_end t r u q k l e)
one_there server m running false false t r u q k l e = one_token m t r u q k l e

one_at : (server : Server) (m : Mode) (running : Bool) (t r u q : List ℕ) →
    IsTokenAt server m running t r → IsTokenAt server m running u q → t ++ r ≡ u ++ q → (t ≡ u) ×
    (r ≡ q)
one_at server m running t r u q k l e =
    one_there server m running (begins_version (t ++ r)) (running && begins_end (t ++ r)) t r u q k
    (subst (λ z. TakesToken server m (begins_version z) (running && begins_end z) u q) (sym e) l) e

not_none : (server : Server) (m : Mode) (v w : Bool) (r : List ℕ) → TakesToken server m v w [] r → ⊥
not_none Runs m true w r h = cc
not_none SkipsToFirstEnd m true w r h = let x = h.spelled in cc
not_none CountsWhileSkipping m true w r h = let x = h.spelled in cc
not_none server m false true r h = cc
not_none server m false false r h = not_empty m r h

one_list_at : (server : Server) (m : Mode) (running : Bool) (ts us : List (List ℕ)) →
    AreTokensAt server m running ts → AreTokensAt server m running us → concat ts ≡ concat us → ts ≡
    us
one_list_at server m running [] [] k l e = refl
one_list_at server m running [] ([] ∷ us) k l e =
    absurd (not_none server m (begins_version (concat us)) (running && begins_end (concat us))
    (concat us) l.0)
one_list_at server m running [] ((b ∷ u) ∷ us) k l e = cc
one_list_at server m running ([] ∷ ts) [] k l e =
    absurd (not_none server m (begins_version (concat ts)) (running && begins_end (concat ts))
    (concat ts) k.0)
one_list_at server m running ((b ∷ t) ∷ ts) [] k l e = cc
one_list_at server m running (t ∷ ts) (u ∷ us) k l e =
    let o : (t ≡ u) × (concat ts ≡ concat us) = one_at server m running t (concat ts) u (concat us) k.0 l.0 e in
    let next : runs_behind server running u (concat us) ≡ runs_behind server running t (concat ts) =
    ap (λ z. if begins_version z then runs server else running && not (begins_end z)) (sym e) in
    let rest : AreTokensAt server m (runs_behind server running t (concat ts)) us =
    subst (λ b. AreTokensAt server m b us) next l.1 in
    let p : ts ≡ us = one_list_at server m (runs_behind server running t (concat ts)) ts us k.1 rest o.1 in
    ap (λ z. z ∷ ts) o.0 ∙ ap (λ z. u ∷ z) p

-- THE LAW

at_server : (server : Server) (m : Mode) (text : List ℕ) (ts : List (List ℕ)) →
    HasTokens m text ts → FixedFrom ts → HasTokensAt server m text (tokens_at server ts)
at_server Runs m text ts h f = let o : RunsAll m ts = run_all m ts h.each f in
    record { joined = o.joined ∙ h.joined; each = o.each }
at_server SkipsToFirstEnd m text ts h f =
    record { joined = h.joined; each = skipped SkipsToFirstEnd refl m ts h.each f }
at_server CountsWhileSkipping m text ts h f =
    record { joined = h.joined; each = skipped CountsWhileSkipping refl m ts h.each f }

-- behind each `/*!` of the text no digit comes first
text_fixed : (query : Sql) (text : List ℕ) (contents : List Content) (tokens : List (List ℕ)) →
    AllAlone query → contents ≢ [] → Slices query text contents → HasTokens query.mode text tokens →
    FixedFrom tokens
text_fixed query text contents tokens a some s h =
    let k : Spells query.mode query.spelling s.tokens contents text =
    pieces_spell query.mode query.spelling s.tokens contents text s.alternates in
    elim (fixed_or_none query s.tokens s.has a) [
      | inr n ↦ absurd (some (nothing s.tokens contents text n k))
      | inl x ↦ (let l = alone_from query s.tokens s.has a in
          let o : Lexed query.mode query.spelling s.tokens contents text =
          lexed query.mode query.spelling s.tokens space contents text s.has.each l x k in
          subst FixedFrom (one_tokens query.mode text o.tokens tokens o.has h)
          (fixed_lexed query.mode query.spelling s.tokens space contents text s.has.each l x k))
    ]
  where
    nothing : (ts : List (List ℕ)) (cs : List Content) (y : List ℕ) → HasNoPlace ts →
        Spells query.mode query.spelling ts cs y → cs ≡ []
    nothing [] cs y n k = k.0
    nothing (t ∷ ts) cs y n (inl (p, r, e, k)) = nothing ts cs r n.1 k
    nothing (t ∷ ts) cs y n (inr x) = let f : true ≡ false = sym x.0 ∙ n.0 in cc

pub servers_read_alike : ServersReadAlike
servers_read_alike query text contents tokens a some s h server =
    let o : HasTokensAt server query.mode text (tokens_at server tokens) =
    at_server server query.mode text tokens h
    (text_fixed query text contents tokens a some s h) in (
      o,
      λ others k. one_list_at server query.mode false others (tokens_at server tokens) k.each
          o.each (k.joined ∙ sym o.joined),
    )
