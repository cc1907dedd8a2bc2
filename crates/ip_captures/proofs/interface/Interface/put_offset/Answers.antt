use Rattle.std.proofs.Common.{◌≡◌, ◌++◌, ◌∙◌, [], List, ℕ, ap, arith, length, sym, append-nil}
use Rattle.std.proofs.lemmas.List.{append_assoc, length-append}
use Rattle.std.proofs.lemmas.Bool.Decides.{nat_tests}
use Rattle.std.specs.Prelude.{nat_le, if◌then◌else◌}
use Rattle.std.specs.Option.{option_map_or}
use Rattle.ip_captures.specs.Numbers.{long_number_at}
use Rattle.ip_captures.specs.BlockWriter.{IsOptionWith}
use Rattle.ip_captures.proofs.WriterLemmas.{is_option, error_skips, value_skips, value_is}
use Rattle.ip_captures.proofs.interface.Interface.put_offset.Goals as goal

pub returns-clause-put : goal.returns-clause-put
returns-clause-put c =
    let o = c.args.order in
    let head = c.option_head.result in
    let value = c.long_bytes_of.result in
    let z = head ++ value in
    let four : length head ≡ 4 = omega arith in
    let eight : length value ≡ 8 = omega arith in
    let nil : List ℕ = [] in
    let joined : z ≡ ((z ++ nil) ++ nil) ++ nil = sym (append-nil ((z ++ nil) ++ nil) ∙ append-nil (z ++ nil) ∙ append-nil z) in
    let is : IsOptionWith o 14 value z = is_option o 14 8 head value [] z four c.option_head.ensures.code c.option_head.ensures.len (sym eight) (omega (arith, eight)) joined in (
      z,
      c.put.ensures.put ∙ ap (λ x. x ++ value) c.put-at.ensures.put ∙ append_assoc _ head value,
      grind (arith, nat_tests, length-append head value, four, eight),
      omega (arith, c.put.ensures.end, c.put-at.ensures.end, length-append head value),
      λ t. error_skips o 14 value z is (omega arith) t,
      λ t. value_skips o 14 value z is (omega arith) t 9 (omega arith),
      λ t none. ap (λ x. option_map_or (λ v. if nat_le 8 (length v) then long_number_at o v 0 else 0) x 0) (value_is o 14 value z is (omega arith) t)
          ∙ grind (arith, nat_tests, eight, c.long_bytes_of.ensures),
    )
