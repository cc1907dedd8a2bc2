-- The names that most proofs use, re-exported here.
pub use Rattle.std.proofs.Common.{◌≡◌, ℕ, zero, suc, ◌+◌, ◌-◌, ◌*◌, ◌/◌, ◌%◌, ◌<◌, ◌≤◌, max, min, Bool, true, false, cond, not, ◌&&◌, ◌||◌, eqb, ltb, leb, List, [], ◌∷◌, ◌++◌, take, drop, replicate, length, get_or, set, Option, Some, None, refl, sym, ap, ◌∙◌, subst, inl, inr, arith, rules}
pub use Rattle.std.specs.Prelude.{◌↔◌, ◌⊎◌, ◌≢◌, IsTrue, is_some, IsSome, IfSome, slice_get, slice_index, sum_by, if◌then◌else◌, nat_eq, nat_lt, nat_le, ◌==◌}
pub use Rattle.std.specs.List.{list_any, list_all}
pub use Rattle.std.specs.Str.{bytes_eq}
pub use Rattle.std.specs.Bool.{beq}
pub use Rattle.std.proofs.lemmas.Bool.{ltb-true, ltb-false, leb-true, leb-false, eqb-true, eqb-false, lt-ltb, le-ltb, le-leb, lt-leb, eq-eqb, ne_eqb, cases_lt, cases_eq, cases_Bool, and_parts, and_left, and_right, and_from, and_cases, or_parts, or_from, or_cases, or_left, or_right, cond-true, cond-false, false_from_ne_true, true_from_ne_false, both_ways, true≢false, false≢true, not-true, not-false, not_from_true, not_from_false}
pub use Rattle.std.proofs.lemmas.Bool.Decides.{nat_tests}
pub use Rattle.std.proofs.lemmas.Grind.{common_steps}
pub use Rattle.ip_reassembly.specs.Fragment.{Fragment, fragment_at, end_of, is_in, is_same, overlaps, has_two_ends, is_unaligned}
pub use Rattle.ip_reassembly.specs.Payload.{byte_at, end_in, first_bytes}
pub use Rattle.ip_reassembly.specs.Reassembly.{first_mark, mark_in, mark_at, reach_of, is_ended, count_of, IsSound, AreConsistent}
pub use Rattle.ip_reassembly.specs.Marks.{byte_mark, mark_of}
pub use Rattle.ip_reassembly.specs.Run.{run_end, run_mark, mark_by, IsLonger}
