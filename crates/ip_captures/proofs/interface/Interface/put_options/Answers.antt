use Rattle.std.proofs.Common.{◌≡◌, ◌≤◌, ◌+◌, ◌%◌, ◌++◌, ◌∙◌, List, ℕ, ap, arith, length, take}
use Rattle.std.proofs.lemmas.List.{append_assoc, length-take-le}
use Rattle.std.specs.Prelude.{Bool, true, false, ◌==◌, nat_le, if◌then◌else◌}
use Rattle.std.specs.Option.{option_map_or}
use Rattle.ip_captures.specs.Numbers.{long_number_at}
use Rattle.ip_captures.specs.Options.{options_error}
use Rattle.ip_captures.specs.Interface.{ticks_in, offset_in}
use Rattle.ip_captures.proofs.interface.Interface.put_options.Goals as goal

-- the options as those of the ticks, and after them those of the offset and the end
joined : (first second third all both : List ℕ) → both ≡ first ++ second → all ≡ both ++ third → all ≡ first ++ (second ++ third)
joined first second third all both e f = f ∙ ap (λ x. x ++ third) e ∙ append_assoc first second third

-- how long they are together
few_of : (x y e : Bool) (n a b d : ℕ) → a ≡ (if x then 0 else 8) → b ≡ (if y then 0 else 12) → d ≡ (if e then 0 else 4) → n ≡ a + b + d → (n % 4 ≡ 0) × (n ≤ 24)
few_of true true true n a b d f g h e = (omega arith, omega arith)
few_of true true false n a b d f g h e = (omega arith, omega arith)
few_of true false true n a b d f g h e = (omega arith, omega arith)
few_of true false false n a b d f g h e = (omega arith, omega arith)
few_of false true true n a b d f g h e = (omega arith, omega arith)
few_of false true false n a b d f g h e = (omega arith, omega arith)
few_of false false true n a b d f g h e = (omega arith, omega arith)
few_of false false false n a b d f g h e = (omega arith, omega arith)

pub returns-clause-options : goal.returns-clause-options
returns-clause-options c =
    let o = c.args.order in
    let first = take c.in-Ok.at c.put_resolution.new.out in
    let second = c.put_offset-at.ensures.put in
    let third = c.put_end.ensures.put in
    let all = joined first second.0 third.0 _ _ second.1 third.1 in
    let sum : c.put_end.result ≡ c.in-Ok.at + length second.0 + length third.0 = third.3 ∙ ap (λ n. n + length third.0) second.3 in
    let few = few_of (c.args.self.now.ticks_per_second == 1000000) (c.args.self.now.offset == 0) (c.put_offset-at.result == 0) c.put_end.result c.in-Ok.at (length second.0) (length third.0) c.in-Ok.ensures.len second.2 third.2 sum in
    let room : c.put_end.result ≤ length c.put_end.new.out = omega (arith, few.1, c.in-Ok.ensures.size, c.put_offset-at.ensures.size, c.put_end.ensures.size) in
    let len : length (take c.put_end.result c.put_end.new.out) ≡ c.put_end.result = length-take-le c.put_end.result c.put_end.new.out room in
    record { padded = ap (λ n. n % 4) len ∙ few.0; right = ap (options_error o) all ∙ c.in-Ok.ensures.right (second.0 ++ third.0) ∙ second.4 third.0 ∙ third.4 o }

pub returns-clause-ticks : goal.returns-clause-ticks
returns-clause-ticks c =
    let o = c.args.order in
    let first = take c.in-Ok.at c.put_resolution.new.out in
    let second = c.put_offset-at.ensures.put in
    let third = c.put_end.ensures.put in
    ap (ticks_in o) (joined first second.0 third.0 _ _ second.1 third.1) ∙ c.in-Ok.ensures.ticks (second.0 ++ third.0) (second.5 third.0 ∙ third.5 o 9)

pub returns-clause-offset : goal.returns-clause-offset
returns-clause-offset c =
    let o = c.args.order in
    let first = take c.in-Ok.at c.put_resolution.new.out in
    let second = c.put_offset-at.ensures.put in
    let third = c.put_end.ensures.put in
    ap (offset_in o) (joined first second.0 third.0 _ _ second.1 third.1)
    ∙ ap (λ x. option_map_or (λ v. if nat_le 8 (length v) then long_number_at o v 0 else 0) x 0) (c.in-Ok.ensures.offset (second.0 ++ third.0))
    ∙ second.6 third.0 (third.5 o 14)
