use Rattle.std.proofs.Common.{◌≡◌, ◌↔◌, ◌⊎◌, ◌+◌, ◌-◌, ◌<◌, inl, inr, length, get_or, ap, sym, ◌∙◌, below_more, arith}
use Rattle.std.proofs.lemmas.Bool.{false≢true}
use Rattle.std.specs.Prelude.{Some, None}
use Rattle.std.specs.Int.{bit_at}
use Rattle.ip_bpf.specs.Programs.{instruction_error, operation_at, word_loaded}
use Rattle.ip_bpf.proofs.CheckLemmas.{operation_found}
use Rattle.ip_bpf.proofs.MemoryLemmas.{IsReached, Adds, reached_at, reached_next}
use Rattle.ip_bpf.proofs.StepLemmas.{loaded_below}
use Rattle.ip_bpf.proofs.memory.find_unwritten_load.Goals as goal

pub places-preserved : goal.places-preserved
places-preserved c =
    let program = c.args.program.now in
    let place = c.places.place in
    let o = c.in-Some.operation in
    let less : place < length program = c.places-test.true in
    let found : operation_at program place ≡ Some o = operation_found program place _ less ∙ sym c.in-Some.ensures in
    record {
      len = omega arith;
      none = below_more _ _ c.places.invariant.none (λ unwritten.
          let k = unwritten.0 in
          let loads : word_loaded (Some o) ≡ Some k = ap word_loaded (sym found) ∙ unwritten.2 in
          let fine : instruction_error (length program - place - 1) (Some o) ≡ None = ap (instruction_error (length program - place - 1)) (sym found) ∙ c.requires.right place less in
          let small : k < 16 = loaded_below o (length program - place - 1) k fine loads in
          let bit : bit_at (get_or c.places.unwritten place 0) k ≡ 1 = (c.places.invariant.marks place k (omega arith) less small).1 (reached_at program k place unwritten.1 unwritten.3) in
          false≢true (c.if-loads_one_of.ensures.1 (k, small, loads, bit)));
      marks = λ p k above within small.
          let marked = c.mark_targets.ensures.marked p k (omega arith) in
          let kept = c.without_stored.ensures k small in
          let old = c.places.invariant.marks p k (omega arith) within small in
          let here = c.places.invariant.marks place k (omega arith) less small in
          let next : IsReached program k (place + 1) p ↔ (IsReached program k place p ⊎ Adds program k place p o) = reached_next program k place p o found in (
            λ h. next.1 (elim (marked.0 h) [
              | inl before ↦ inl (old.0 before)
              | inr new ↦ let w = kept.0 new.0 in inr (here.0 w.0, w.1, new.1)
            ]),
            λ r. marked.1 (elim (next.0 r) [
              | inl before ↦ inl (old.1 before)
              | inr new ↦ inr (kept.1 (here.1 new.0, new.1), new.2)
            ]),
          );
    }

pub returns : goal.returns
returns c = λ index less. c.places.invariant.none index (omega arith)
