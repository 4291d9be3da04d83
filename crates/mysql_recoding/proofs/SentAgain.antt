-- What recoding appends carries the same sets, and recodes to the same bytes.
use Rattle.std.proofs.Common.{◌≡◌, ℕ, ◌-◌, ◌<◌, ◌^◌, List, [], ◌++◌, map, None, Ok, refl, sym, ◌∙◌, ap, subst, arith}
use Rattle.std.specs.List.{AllByRecursion}
use Rattle.mysql_wire.specs.Stream.{framings}
use Rattle.mysql_wire.specs.Stream.Numbering.{EachFromZero}
use Rattle.mysql_values.specs.Sql.{Sql}
use Rattle.mysql_values.specs.Queries.{places_of}
use Rattle.mysql_receive.specs.Audit.{Audit, AuditOf}
use Rattle.mysql_receive.specs.Reading.{Set}
use Rattle.mysql_receive.specs.declared.audit.End.TheVariants.{Whole}
use Rattle.mysql_stmt.specs.Statements.{ExecutionsHaveSizes}
use Rattle.mysql_receive.specs.Query.{Statement, statement_of}
use Rattle.mysql_command_rules.specs.Laws.{CarriesValues, SentValuesAreCarried}
use Rattle.mysql_command_rules.specs.Reading.{SentReadable}
use Rattle.mysql_command_rules.specs.Cause.{cause_of}
use Rattle.mysql_command_rules.specs.Sent.{payloads_of}
use Rattle.mysql_command_rules.specs.Sets.{all_given_in_places}
use Rattle.mysql_command_rules.specs.declared.road.Road.TheVariants.{Execute}
use Rattle.mysql_recoding.specs.Causes.{values_of_sets}
use Rattle.mysql_recoding.specs.Laws.{CarriedSetsFillPlaces, FillsPlaces, RecodingsAreSent, RecodingsCarryTheSame}
use Rattle.mysql_recoding.specs.Laws.{RecodingsRecodeToThemselves}
use Rattle.mysql_recoding.specs.Recoding.{Recodes}
use Rattle.mysql_recoding.proofs.Canonical.{appended}
use Rattle.mysql_recoding.proofs.Causes.{free_of_causes, no_cause, recodable}
use Rattle.mysql_recoding.proofs.SentContents.{one_contents, sets_fit, sets_held}

-- wherever what is sent of them stands, the sets are sent by execute, and can be read back
sent_where : ExecutionsHaveSizes → (query : Sql) (id limit : ℕ) (stream old new : List ℕ) →
    limit < 2 ^ 64 → (is : Recodes query id limit stream old new)
    → AllByRecursion (FillsPlaces (places_of query is.tokens)) is.audit.sets →
    (before behind : List ℕ) → behind ≡ before ++ framings (payloads_of is.sent) EachFromZero
    → SentReadable Execute query (all_given_in_places (values_of_sets is.audit.sets)) id limit before behind
sent_where sizes query id limit stream old new small is fill before behind there =
    let statement : Statement = statement_of query is.tokens id in
    let sets : List Set = is.audit.sets in
    let none : cause_of Execute statement limit (map Ok (values_of_sets sets)) ≡ None =
    (recodable statement limit is.audit is.none).1 in
    let room : limit - 4 < 2 ^ 64 = omega arith in
    record {
      sends = record {
        tokens = is.tokens;
        has = is.has;
        values = values_of_sets sets;
        given = refl;
        none = none;
        sent = is.sent;
        are_sent = is.are_sent;
        appended = there;
      };
      readable = sets_fit sizes id (limit - 4) statement.query.places sets room fill
          (free_of_causes statement limit (values_of_sets sets) none).1;
    }

-- what is appended is what execute sends of the sets
pub are_sent : CarriedSetsFillPlaces → ExecutionsHaveSizes → RecodingsAreSent
are_sent fill_places sizes query id limit stream old new small bytes is =
    sent_where sizes query id limit stream old new small is
    (fill_places query is.tokens id limit stream is.audit is.has bytes is.says) old new
    is.appended

pub carry_the_same : CarriedSetsFillPlaces → SentValuesAreCarried → ExecutionsHaveSizes → RecodingsCarryTheSame
unfolding sent_where
carry_the_same fill_places are_carried sizes query id limit stream old recoded few room small short bytes is =
    let sets : List Set = is.audit.sets in
    let fill = fill_places query is.tokens id limit stream is.audit is.has bytes is.says in
    let carried : CarriesValues query (values_of_sets sets) id limit [] recoded =
    are_carried Execute query (all_given_in_places (values_of_sets sets)) id limit [] recoded few room short
    (sent_where sizes query id limit stream old (old ++ recoded) small is fill [] recoded
    (appended query id limit stream old recoded is)) in
    let audit : AuditOf query id limit recoded (record { sets = carried.contents; ending = Whole }) =
    subst (λ (bytes : List ℕ). AuditOf query id limit bytes
    (record { sets = carried.contents; ending = Whole })) (sym carried.appended)
    carried.audit in
    let same : carried.contents ≡ sets =
    one_contents carried.contents sets (sym carried.each ∙
    sets_held (places_of query is.tokens) sets fill) in
    subst (λ (l : List Set). AuditOf query id limit recoded (record { sets = l; ending = Whole })) same audit

-- the same sets, to the end of a whole stream
whole : List Set → Audit
whole sets = record { sets = sets; ending = Whole }

pub recode_to_themselves : RecodingsCarryTheSame → RecodingsRecodeToThemselves
unfolding whole
recode_to_themselves same query id limit stream old other recoded few room small short bytes is =
    let statement : Statement = statement_of query is.tokens id in
    record {
      tokens = is.tokens;
      has = is.has;
      audit = whole is.audit.sets;
      says = same query id limit stream old recoded few room small short bytes is;
      none = no_cause statement limit (whole is.audit.sets) refl (recodable statement limit is.audit is.none).1;
      sent = is.sent;
      are_sent = is.are_sent;
      appended = ap (λ l. other ++ l) (appended query id limit stream old recoded is);
    }
