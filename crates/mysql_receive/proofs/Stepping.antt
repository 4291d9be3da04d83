-- What is in force behind one payload is what is found by looking back over it.
use Rattle.std.proofs.Common.{◌≡◌, ℕ, Bool, true, false, cond, List, [], ◌∷◌, ◌++◌, Option, Some, None, Result, Ok, Err}
use Rattle.std.proofs.Common.{refl, ap, ◌∙◌}
use Rattle.std.specs.Prelude.{unwrap_or, bytes_eq, is_some, ◌==◌, ◌||◌, if◌then◌else◌}
use Rattle.std.specs.List.{cons_option, filter_map, last_or}
use Rattle.std.specs.Option.{option_map, option_and_then, option_to_list, option_or}
use Rattle.std.specs.Result.{result_ok}
use Rattle.std.proofs.lemmas.List.{append-nil}
use Rattle.std.proofs.lemmas.Slice.Eq.{bytes_eq-Decides}
use Rattle.mysql_receive.specs.declared.fault.StreamFault.{StreamFault}
use Rattle.mysql_receive.specs.Layout.{Command, Types, PlaceData, place_data_at, command_of}
use Rattle.mysql_receive.specs.Layout as layout
use Rattle.mysql_receive.specs.Query.{Statement}
use Rattle.mysql_receive.specs.InForce.{StatementState, after, after_command, freshly_prepared, with_sent}
use Rattle.mysql_receive.specs.InForce.{execute_types, bulk_types}
use Rattle.mysql_receive.specs.LookingBack.{said_by, speaks_of_prepared, speaks_of_types, speaks_of_place, ends_data}
use Rattle.mysql_receive.specs.LookingBack.{joined, looking_back}

-- what waited is still what waits
still : (o : Option (List ℕ)) → joined (option_to_list o ++ []) ≡ o
still None = refl
still (Some x) = ap (λ l. Some l) (append-nil x)

own_or : (own : Option Types) (kept : Option Types) →
    unwrap_or (last_or None (cons_option (option_map (λ types. Some types) own) [])) kept ≡
    option_or own kept
own_or None kept = refl
own_or (Some ts) kept = refl

prepared_or : (b kept : Bool) →
    unwrap_or (last_or None (cons_option (if b then Some true else None) [])) kept ≡ (b || kept)
prepared_or true kept = refl
prepared_or false kept = refl

-- data behind what waits
data_behind : (waiting : Option (List ℕ)) (bytes : List ℕ) →
    joined (option_to_list waiting ++ bytes ∷ []) ≡ Some (unwrap_or waiting [] ++ bytes)
data_behind None bytes = ap (λ l. Some l) (append-nil bytes)
data_behind (Some x) bytes = ap (λ l. Some (x ++ l)) (append-nil bytes)

sent_once : (s : StatementState) (place : ℕ) (r : Result PlaceData StreamFault)
    → joined (option_to_list (s.long_data place) ++
    cons_option (option_and_then (λ sent. if sent.place == place then Some sent.bytes else None)
    (result_ok r)) []) ≡ (with_sent s r).long_data place
sent_once s place (Err f) = still (s.long_data place)
sent_once s place (Ok sent) = by_test (sent.place == place)
  where
    by_test : (b : Bool) → joined (option_to_list (s.long_data place) ++
        cons_option (cond b (Some sent.bytes) None) []) ≡
        cond b (Some (unwrap_or (s.long_data place) [] ++ sent.bytes)) (s.long_data place)
    by_test true = data_behind (s.long_data place) sent.bytes
    by_test false = still (s.long_data place)

with_sent_prepared : (s : StatementState) (r : Result PlaceData StreamFault) → s.prepared ≡ (with_sent s r).prepared
with_sent_prepared s (Ok sent) = refl
with_sent_prepared s (Err f) = refl

with_sent_types : (s : StatementState) (r : Result PlaceData StreamFault) → s.types ≡ (with_sent s r).types
with_sent_types s (Ok sent) = refl
with_sent_types s (Err f) = refl

-- what waits for a place behind a payload that says this of it, by whether the payload is an end
one_payload : (says : List ℕ → Option (List ℕ)) (payload : List ℕ) (e : Bool) (o : Option (List ℕ))
    → joined (option_to_list (cond e None o) ++ filter_map says (cond e [] (payload ∷ []))) ≡
    cond e None (joined (option_to_list o ++ cons_option (says payload) []))
one_payload says payload true o = refl
one_payload says payload false o = refl

-- what is found by looking back over one command
abbrev back_by : Statement → StatementState → Command → List ℕ → StatementState
back_by c s command body = record {
  prepared = unwrap_or (last_or None (cons_option (speaks_of_prepared c command body) [])) s.prepared;
  types = unwrap_or (last_or None (cons_option (speaks_of_types c command body) [])) s.types;
  long_data = λ place.
      cond (is_some (ends_data command body) ||
      false) None (joined (option_to_list (s.long_data place) ++
      cons_option (speaks_of_place c place command body) []));
}

back_command : (c : Statement) (s : StatementState) (command : Command) (body : List ℕ) →
    back_by c s command body ≡ after_command c s command body
back_command c s layout.Text body =
    λ i. record {
      prepared = s.prepared;
      types = s.types;
      long_data =
          λ place. still (s.long_data place) i;
    }
back_command c s layout.Prepare body =
    λ i. record {
      prepared = prepared_or (bytes_eq body c.query.parsed) s.prepared i;
      types =
          None;
      long_data = λ place. None;
    }
back_command c s layout.LongData body =
    let r : Result PlaceData StreamFault = place_data_at c body in
    λ i. record {
      prepared = with_sent_prepared s r i;
      types = with_sent_types s r i;
      long_data =
          λ place. sent_once s place r i;
    }
back_command c s layout.Execute body =
    λ i. record {
      prepared = s.prepared;
      types =
          own_or (execute_types c body) s.types i;
      long_data = λ place. None;
    }
back_command c s layout.Bulk body =
    λ i. record {
      prepared = s.prepared;
      types = own_or (bulk_types c body) s.types i;
      long_data =
          λ place. still (s.long_data place) i;
    }
back_command c s layout.Reset body = refl
back_command c s layout.Close body = refl
back_command c s layout.Other body =
    λ i. record {
      prepared = s.prepared;
      types = s.types;
      long_data =
          λ place. still (s.long_data place) i;
    }

pub back_once : (c : Statement) (s : StatementState) (payload : List ℕ) →
    looking_back c s (payload ∷ []) ≡ after c s payload
back_once c s [] = λ i. record {
  prepared = s.prepared;
  types = s.types;
  long_data =
      λ place. still (s.long_data place) i;
}
back_once c s (b ∷ body) = same ∙ back_command c s (command_of b) body
  where
    same : looking_back c s ((b ∷ body) ∷ []) ≡ back_by c s (command_of b) body
    same = λ i. record {
      prepared = (back_by c s (command_of b) body).prepared;
      types = (back_by c s (command_of b) body).types;
      long_data = λ place. one_payload (said_by (speaks_of_place c place)) (b ∷
          body) (is_some (ends_data (command_of b) body) || false) (s.long_data place) i;
    }

-- behind a prepare of the statement's query
pub behind_prepare : (c : Statement) (s : StatementState) (body : List ℕ) → body ≡ c.query.parsed →
    after_command c s layout.Prepare body ≡ freshly_prepared
behind_prepare c s body is =
    let same : bytes_eq body c.query.parsed ≡ true = (bytes_eq-Decides body c.query.parsed).1 is in
    λ i. record { prepared = ap (λ b. b || s.prepared) same i; types = None; long_data = λ place. None }
