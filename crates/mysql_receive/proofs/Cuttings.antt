-- Two audits of the same bytes are one.
use Rattle.std.proofs.Common.{◌≡◌, ℕ, List, sym, subst, ◌∙◌}
use Rattle.std.specs.List.{concat}
use Rattle.mysql_values.specs.Laws.{TextIsDecided, OneReading, OnePlaces, OneTokens, SlicedIsLexed}
use Rattle.mysql_wire.specs.GoingOn.{ReaderLaws}
use Rattle.mysql_receive.specs.Query.{Statement, statement_of}
use Rattle.mysql_receive.specs.Audit.{Audited}
use Rattle.mysql_receive.specs.Laws.{CuttingsAgree}
use Rattle.mysql_receive.proofs.About.{query_is}
use Rattle.mysql_receive.proofs.Readable.{readable}
use Rattle.mysql_receive.proofs.Feeding.{one_of_stream}

pub agree : ReaderLaws → TextIsDecided → OneReading → SlicedIsLexed → OneTokens → OnePlaces → CuttingsAgree
agree wire decided once lexed one_tokens one_places query id limit pieces others a b are same p q =
    let statement : Statement = statement_of query q.0 id in
    let tokens : p.0 ≡ q.0 = one_tokens query.mode query.text p.0 q.0 p.1 q.1 in
    let one = one_of_stream wire statement limit
    (readable decided once lexed one_places statement.query (query_is query q.0 id q.1))
    (concat pieces) are in
    let first : Audited statement limit (concat pieces) a =
    subst (λ (t : List (List ℕ)). Audited (statement_of query t id) limit (concat pieces) a)
    tokens p.2 in
    let second : Audited statement limit (concat pieces) b =
    subst (λ (l : List ℕ). Audited statement limit l b) (sym same) q.2 in
    one.2 a first ∙ sym (one.2 b second)
