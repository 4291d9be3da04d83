-- What a reader of packets leaves of a piece stands at the piece's end.
use Rattle.std.proofs.Common.{◌≡◌, ℕ, ◌-◌, ◌+◌, ◌<◌, ◌≤◌, Bool, true, false, List, [], ◌++◌, length, drop, refl, sym}
use Rattle.std.proofs.Common.{◌∙◌, ap, arith, length-append, subst, true≢false, Option, Some, None, Ok, Err, IfSome}
use Rattle.std.proofs.lemmas.List.{drop_all}
use Rattle.std.proofs.Math.Seq.{drop-append-add, drop-append_seam}
use Rattle.mysql_wire.specs.Codec.{error_of, held}
use Rattle.mysql_wire.specs.declared.codec.Refusal.{Refusal}
use Rattle.mysql_wire.specs.Framing.{chunks, framing}
use Rattle.mysql_wire.specs.Incoming.{Incoming, ReadsOn, codec_by}
use Rattle.mysql_c_commands.specs.Packets.{ReadsTo}

-- what joined lists end with
ends_with : (a b f r : List ℕ) → a ++ b ≡ f ++ r → length r ≤ length b → r ≡ drop (length b - length r) b
ends_with a b f r e few =
    let lengths : length a + length b ≡ length f + length r = omega (arith, simp length-append at (ap length e)) in
    let count : length f ≡ length a + (length b - length r) = omega arith in
    sym (drop-append_seam f r) ∙ ap (drop (length f)) (sym e) ∙ ap (λ n. drop n (a ++ b)) count ∙
    drop-append-add a b (length b - length r)

-- a reader holds the bytes that came
holds : (r : Incoming) (src : List ℕ) → held (codec_by r) src [] ≡ src
unfolding held chunks
holds r src = refl

-- what is left behind a payload
left_behind : (old : Incoming) (piece rest : List ℕ) (new : Incoming) → ReadsOn old piece true new rest → new.bytes ≡ []
    → length rest < length piece → rest ≡ drop (length piece - length rest) piece
left_behind old piece rest new reads between few =
    let e = sym (holds old (old.bytes ++ piece)) ∙ reads.framed in
    ends_with old.bytes piece (framing new.payload _) rest (rw between at e) (omega arith)

-- a reader reads a piece as far as the bytes that it leaves
pub reads_to : (old : Incoming) (piece rest : List ℕ) (whole : Bool) (new : Incoming) → ReadsOn old piece whole new rest
    → (whole ≡ true → (new.bytes ≡ []) × (length rest < length piece))
    → (whole ≡ false → (rest ≡ []) × (new ≡ record old { bytes = old.bytes ++ piece; payload = [] }))
    → ReadsTo old piece (length piece - length rest) whole new
reads_to old piece rest true new reads ends waits =
    let between = ends refl in
    let at_end : rest ≡ drop (length piece - length rest) piece =
    left_behind old piece rest new reads between.0 between.1 in
    record {
      reads = subst (λ r. ReadsOn old piece true new r) at_end reads;
      within = omega arith;
      ends = λ _. (between.0, omega (arith, between.1));
      waits = λ h. absurd (true≢false h);
    }
reads_to old piece rest false new reads ends waits =
    let over = waits refl in
    let all : drop (length piece - length rest) piece ≡ [] =
    drop_all (length piece - length rest) piece (omega (arith, ap length over.0)) in
    record {
      reads = subst (λ r. ReadsOn old piece false new r) (over.0 ∙ sym all) reads;
      within = omega arith;
      ends = λ h. absurd (true≢false (sym h));
      waits = λ _. (omega (arith, ap length over.0), over.1);
    }

-- a reader that answers has refused nothing
pub no_refusal : (refused : Option Refusal) (whole : Bool) (old new : Incoming) (Says : Refusal → Type 0)
    → IfSome refused (λ refusal. (Ok whole ≡ Err (error_of refusal)) × (new ≡ old)) → IfSome refused Says
no_refusal None whole old new Says h = tt
no_refusal (Some refusal) whole old new Says h =
    let same : Ok whole ≡ Err (error_of refusal) = h.0 in
    cc
