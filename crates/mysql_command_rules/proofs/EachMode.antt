-- What is sent by text in hexadecimal is the same in each mode in which the query has the same
-- tokens, and reads there as the same.
use Rattle.std.proofs.Common.{◌≡◌, ℕ, suc, ◌+◌, ◌-◌, Bool, true, false, not, cond, ◌&&◌, ◌||◌, List, [], ◌∷◌, filter}
use Rattle.std.proofs.Common.{length, map, Option, Some, None, Ok, refl, sym, ◌∙◌, ap, arith, subst, unwrap_or}
use Rattle.std.specs.List.{AllByRecursion, flat_map, list_any, position_from}
use Rattle.std.specs.Option.{option_map, option_or}
use Rattle.mysql_values.specs.AsSql.{EachSqlIsLiteral, OneHexadecimal}
use Rattle.mysql_values.specs.Values.{FitsFields}
use Rattle.mysql_values.specs.Content.{Content}
use Rattle.mysql_values.specs.Laws.{FilledIsRead, PiecesAreSlices}
use Rattle.mysql_values.specs.Literals.{IsLiteral}
use Rattle.mysql_values.specs.Mode.{Mode}
use Rattle.mysql_values.specs.Parsed.{names_of}
use Rattle.mysql_values.specs.Place.{Place}
use Rattle.mysql_values.specs.Binding.{literals_in}
use Rattle.mysql_values.specs.Queries.{AreLiterals, first_not_alone, interleaved, is_mixed, is_name, is_place, place_at}
use Rattle.mysql_values.specs.Queries.{places_behind, places_of, servers_agree, slices_between}
use Rattle.mysql_values.specs.Spelling.TheVariants.{Hexadecimal}
use Rattle.mysql_values.specs.Sql.{Sql, read_by}
use Rattle.mysql_values.specs.Tokens.{HasTokens}
use Rattle.mysql_values.specs.Value.{Value}
use Rattle.mysql_values.specs.Value.TheVariants.{NULL, Bytes, Int, UInt, Float, Double, Date, Time}
use Rattle.mysql_values.specs.Values.{content_of}
use Rattle.mysql_values.specs.SqlTexts.{literal_of}
use Rattle.mysql_bulk_builder.specs.Causes.{first_some}
use Rattle.mysql_receive.specs.Query.{Statement, statement_of}
use Rattle.mysql_command_rules.specs.declared.refusal.Refusal.{Refusal}
use Rattle.mysql_command_rules.specs.declared.refusal.Refusal.TheVariants as refusals
use Rattle.mysql_command_rules.specs.declared.road.Road.TheVariants.{Text}
use Rattle.mysql_command_rules.specs.Cause.{cause_if, first_of_sets, places_cause, set_cause}
use Rattle.mysql_command_rules.specs.Commands.{query_command}
use Rattle.mysql_command_rules.specs.Laws.{HexadecimalInEachMode}
use Rattle.mysql_command_rules.specs.Reading.{IsReadable}
use Rattle.mysql_command_rules.specs.Sent.{last_of, whole_command}
use Rattle.mysql_command_rules.proofs.Carried.{no_cause}
use Rattle.mysql_command_rules.proofs.Contents.{counted, good, neither}

-- ---- literals

-- what is put for a literal
abbrev put : Option (List ℕ) → List ℕ
put literal = unwrap_or literal []

-- a value that means something has a literal
has_literal : (m : Mode) (value : Value) (content : Content) → content_of value ≡ Some content →
    literal_of m Hexadecimal value ≡ Some (put (literal_of m Hexadecimal value))
has_literal m NULL content is = refl
has_literal m (Bytes bytes) content is = refl
has_literal m (Int z) content is = refl
has_literal m (UInt n) content is = refl
has_literal m (Float bits) content is = cc
has_literal m (Double bits) content is = cc
has_literal m (Date year month day hour minute second micros) content is = refl
has_literal m (Time negative days hours minutes seconds micros) content is = refl

-- there is one for each value
literals_count : (query : Sql) (values : List Value) → length (map put (literals_in query values)) ≡ length values
literals_count query [] = refl
literals_count query (value ∷ values) = ap (λ k. suc k) (literals_count query values)

-- the literals of values are those of their contents
are_literals : EachSqlIsLiteral →
    (text : List ℕ) (m : Mode) (values : List Value) (contents : List Content) →
    map content_of values ≡ map Some contents → AllByRecursion (λ value. FitsFields value) values
    → AreLiterals m Hexadecimal (map put (literals_in (read_by m Hexadecimal text) values)) contents
are_literals law text m [] [] each fit = tt
are_literals law text m [] (content ∷ contents) each fit = cc
are_literals law text m (value ∷ values) [] each fit = cc
are_literals law text m (value ∷ values) (content ∷ contents) each fit =
    let here : content_of value ≡ Some content = cc in
    let others : map content_of values ≡ map Some contents = cc in
    let literal : List ℕ = put (literal_of m Hexadecimal value) in
    let first : IsLiteral m Hexadecimal literal content =
    (law value fit.0).1 m Hexadecimal literal content (has_literal m value content here) here in
    (first, are_literals law text m values contents others fit.1)

-- ---- placeholders

-- a test of the names of placeholders is one of the tokens
any_named : (test : Bool → Bool) (query : Sql) (agree : Bool) (before : List (List ℕ)) (start : ℕ)
    (tokens : List (List ℕ)) →
    list_any (λ place. test place.name) (places_behind query agree before start tokens) ≡
    list_any (λ token. test (is_name token)) (filter is_place tokens)
any_named test query agree before start [] = refl
any_named test query agree before start (token ∷ tokens) =
    by (is_place token) (any_named test query agree (token ∷ before) (start + length token) tokens)
  where
    by : (b : Bool) → list_any (λ place. test place.name)
        (places_behind query agree (token ∷ before) (start + length token) tokens) ≡
        list_any (λ token. test (is_name token)) (filter is_place tokens)
        → list_any (λ place. test place.name)
        (cond b (place_at query agree before start token tokens ∷
        places_behind query agree (token ∷ before) (start + length token) tokens)
        (places_behind query agree (token ∷ before) (start + length token) tokens))
        ≡ list_any (λ token. test (is_name token)) (cond b (token ∷ filter is_place tokens) (filter is_place tokens))
    by true same = ap (λ p. test (is_name token) || p) same
    by false same = same

-- whether both kinds occur is the same in each mode
mixed_too : (query other : Sql) (tokens : List (List ℕ)) → is_mixed (places_of query tokens) ≡
    is_mixed (places_of other tokens)
mixed_too query other tokens =
    let named : list_any (λ place. place.name) (places_of query tokens) ≡
    list_any (λ place. place.name) (places_of other tokens) =
    any_named (λ b. b) query (servers_agree 0 tokens) [] 0 tokens ∙
    sym (any_named (λ b. b) other (servers_agree 0 tokens) [] 0 tokens) in
    let marked : list_any (λ place. not place.name) (places_of query tokens) ≡
    list_any (λ place. not place.name) (places_of other tokens) =
    any_named not query (servers_agree 0 tokens) [] 0 tokens ∙
    sym (any_named not other (servers_agree 0 tokens) [] 0 tokens) in
    ap (λ p. p && list_any (λ place. not place.name) (places_of query tokens)) named ∙
    ap (λ p. list_any (λ place. place.name) (places_of other tokens) && p) marked

count_too : (query other : Sql) (tokens : List (List ℕ)) → length (places_of query tokens) ≡
    length (places_of other tokens)
count_too query other tokens = counted query (servers_agree 0 tokens) [] 0 tokens ∙
    sym (counted other (servers_agree 0 tokens) [] 0 tokens)

none_apart : (i : ℕ) (places : List Place) → AllByRecursion (λ place. place.alone ≡ true) places →
    position_from (λ place. not place.alone) i places ≡ None
none_apart i [] h = refl
none_apart i (p ∷ places) h = let a : p.alone ≡ true = h.0 in rw a (none_apart (i + 1) places h.1)

-- ---- in another mode

module _ (one : OneHexadecimal) (law : EachSqlIsLiteral) (filled : FilledIsRead)
    (slices : PiecesAreSlices) (text : List ℕ) (mode other : Mode) (tokens : List (List ℕ))
    (had : HasTokens mode text tokens) (has : HasTokens other text tokens) (id : ℕ) where
  -- the statement of the query, and that of its text in the other mode
  abbrev query : Sql
  query = read_by mode Hexadecimal text

  abbrev elsewhere : Sql
  elsewhere = read_by other Hexadecimal text

  abbrev here : Statement
  here = statement_of query tokens id

  abbrev there : Statement
  there = statement_of elsewhere tokens id

  abbrev places : List Place
  places = places_of elsewhere tokens

  -- each value has the same literal, each set the same text, and so the same command
  same_literals : (values : List Value) → literals_in query values ≡ literals_in elsewhere values
  same_literals [] = refl
  same_literals (value ∷ values) =
      ap (λ literal. literal ∷ literals_in query values) (one value mode other)
      ∙ ap (λ literals. literal_of other Hexadecimal value ∷ literals) (same_literals values)

  same_slices : slices_between text 0 (places_of query tokens) ≡ slices_between text 0 places
  same_slices = sym (slices query tokens had) ∙ slices elsewhere tokens has

  same_command : whole_command Text here ≡ whole_command Text there
  same_command = λ i. λ values.
      (ap (λ (literals : List (Option (List ℕ))). query_command
      (interleaved (slices_between text 0 (places_of query tokens)) (map put literals)))
      (same_literals values)
      ∙ ap (λ (pieces : List (List ℕ)). query_command
      (interleaved pieces (map put (literals_in elsewhere values)))) same_slices) i

  -- the text of a set reads in the other mode as its contents
  readable : (values : List Value) → length values ≡ length places →
      AllByRecursion (λ place. place.alone ≡ true) places →
      AllByRecursion (λ value. FitsFields value) values
      → IsReadable Text here.query values → IsReadable Text there.query values
  readable values count alone fit is =
      let literals : List (List ℕ) = map put (literals_in elsewhere values) in (
        is.0,
        is.1,
        filled elsewhere places literals is.0 (
          tokens,
          has,
          refl,
        ) alone (literals_count elsewhere values ∙
            count) (are_literals law text other values is.0 is.1 fit),
      )

  all_readable : (room number : ℕ) (sets : List (List Value)) → AllByRecursion (λ place. place.alone ≡ true) places
      → first_of_sets (set_cause (whole_command Text here) (length places) room) number
      (map Ok sets) ≡ None → AllByRecursion
      (λ values. AllByRecursion (λ value. FitsFields value) values) sets
      → AllByRecursion (IsReadable Text here.query) sets → AllByRecursion (IsReadable Text there.query) sets
  all_readable room number [] alone none fit is = tt
  all_readable room number (values ∷ sets) alone none fit is =
      let command : List Value → List ℕ = whole_command Text here in
      let parts = neither (set_cause command (length places) room number (Ok values))
      (first_of_sets (set_cause command (length places) room) (number + 1) (map Ok sets))
      none in (
        readable values (good command (length places) room number values parts.0).count_is alone
            fit.0 is.0,
        all_readable room (number + 1) sets alone parts.1 fit.1 is.1,
      )

unless : (b : Bool) (e : Refusal) → cause_if b e ≡ None → b ≡ false
unless true e h = cc
unless false e h = refl

-- nothing speaks against placeholders of one kind that stand alone
no_places_cause : (places : List Place) → is_mixed places ≡ false →
    AllByRecursion (λ place. place.alone ≡ true) places → places_cause places ≡ None
no_places_cause places one alone =
    ap (λ mixed. option_or (cause_if mixed refusals.Mixed)
    (option_map (λ place. refusals.NotAlone place) (first_not_alone places))) one
    ∙ ap (λ apart. option_or (cause_if false refusals.Mixed)
    (option_map (λ place. refusals.NotAlone place) apart)) (none_apart 0 places alone)

pub in_each_mode : OneHexadecimal → EachSqlIsLiteral → FilledIsRead → PiecesAreSlices → HexadecimalInEachMode
in_each_mode one law filled slices text mode other sets id limit old new sent fit has apart =
    let tokens : List (List ℕ) = sent.sends.tokens in
    let values : List (List Value) = sent.sends.values in
    let room : ℕ = limit - 4 in
    let query : Sql = read_by mode Hexadecimal text in
    let elsewhere : Sql = read_by other Hexadecimal text in
    let before : List Place = places_of query tokens in
    let places : List Place = places_of elsewhere tokens in
    let command : List Value → List ℕ = whole_command Text (statement_of query tokens id) in
    let same = same_command one law filled slices text mode other tokens sent.sends.has has id in
    let count : length before ≡ length places = count_too query elsewhere tokens in
    let alone : AllByRecursion (λ place. place.alone ≡ true) places = apart places (tokens, has, refl) in
    let first : Option Refusal = first_of_sets (set_cause command (length before) room) 0 (sets (names_of tokens)) in
    let parts = neither (places_cause before) (option_or first (option_or None None)) sent.sends.none in
    let of_sets = neither first (option_or None None) parts.1 in
    let good = neither (cause_if (is_mixed before) refusals.Mixed)
    (option_map (λ place. refusals.NotAlone place) (first_not_alone before)) parts.0 in
    let one_kind : is_mixed places ≡ false = sym (mixed_too query elsewhere tokens) ∙
    unless (is_mixed before) refusals.Mixed good.0 in
    let second : first_of_sets
    (set_cause (whole_command Text (statement_of elsewhere tokens id)) (length places) room) 0
    (sets (names_of tokens)) ≡ None =
    subst (λ (c : List Value → List ℕ). first_of_sets (set_cause c (length places) room) 0
    (sets (names_of tokens)) ≡ None) same
    (subst (λ (n : ℕ). first_of_sets (set_cause command n room) 0 (sets (names_of tokens)) ≡ None) count of_sets.0) in
    let of_values : first_of_sets (set_cause command (length places) room) 0 (map Ok values) ≡ None =
    subst (λ (n : ℕ). first_of_sets (set_cause command n room) 0 (map Ok values) ≡
    None) count (ap (λ given. first_of_sets (set_cause command (length before) room) 0 given)
    (sym sent.sends.given) ∙ of_sets.0) in
    record {
      sends = record {
        tokens = tokens;
        has = has;
        values = values;
        given = sent.sends.given;
        none = ap (λ c. first_some (c ∷
            first_of_sets (set_cause (whole_command Text (statement_of elsewhere tokens id))
            (length places) room) 0 (sets (names_of tokens)) ∷ None ∷ []))
            (no_places_cause places one_kind alone)
            ∙ ap (λ c. first_some (None ∷ c ∷ None ∷ [])) second;
        sent = sent.sends.sent;
        are_sent = sent.sends.are_sent ∙
            ap (λ (command : List Value → List ℕ). flat_map (λ set. last_of set (command set) ∷
            []) values) same;
        appended = sent.sends.appended;
      };
      readable = all_readable one law filled slices text mode other tokens sent.sends.has has id
          room 0 values alone of_values fit sent.readable;
    }
