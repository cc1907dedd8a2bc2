use Rattle.ip_spec.proofs.Common.{◌≡◌, ◌+◌, ◌-◌, ◌∷◌, [], ℕ, List, length, take, drop, take_all, length-drop, refl, sym, ap, ◌∙◌, arith, ◌≤◌, subst, eq-eqb, ne_eqb, Option, IfSome}
use Rattle.ip_header_contents.specs.Options.{OptionFields, option_of, option_bytes, options_in}
use Rattle.ip_header_contents.proofs.OptionLemmas.{first_from, none}
use Rattle.ip_rewrite.specs.Jumbogram.{only_jumbo_payload}
use Rattle.ip_rewrite.specs.Writing.{found_or}
use Rattle.ip_rewrite.proofs.OptionLemmas.{found_more, found_here, found_twice, found_end}
use Rattle.ip_rewrite.proofs.jumbogram.only_jumbo_payload.Goals as goal
use Rattle.ip_rewrite.proofs.jumbogram.only_jumbo_payload.Goals.{then-option+else-is_some, else-option}

rest_is : (h : List ℕ) (k : ℕ) → take (length h - k) (drop k h) ≡ drop k h
rest_is h k = take_all (length h - k) (drop k h) (omega (arith, length-drop k h))

pub returns-then-is_some-clause-only : goal.returns-then-is_some-clause-only
returns-then-is_some-clause-only c =
    let h : List ℕ = c.args.header.now in
    let k : ℕ = c.options.offset in
    let o : OptionFields = option_of c.in-Some.option in
    let n : ℕ = length (option_bytes o) in
    let next : options_in (drop k h) ≡ o ∷ options_in (drop (k + n) h) = first_from h (take (length h - k) (drop k h)) k n o (rest_is h k) c.in-Some.ensures.some refl in
    sym (found_twice c.options.found k o (options_in (drop (k + n) h)) (sym c.is_some.ensures ∙ c.if-is_some.true) (eq-eqb o.option_type 0xc2 c.if-option.true))
    ∙ (sym (ap (found_or c.options.found k) next) ∙ c.options.invariant.rest)

pub options-preserved : goal.options-preserved
options-preserved c =
    let h : List ℕ = c.args.header.now in
    let k : ℕ = c.options.offset in
    let o : OptionFields = option_of c.in-Some.option in
    let n : ℕ = length (option_bytes o) in
    let xs : List OptionFields = options_in (drop (k + n) h) in
    let len : c.encoded_len-offset.result ≡ n = c.encoded_len-offset.ensures in
    let next : options_in (drop k h) ≡ o ∷ xs = first_from h (take (length h - k) (drop k h)) k n o (rest_is h k) c.in-Some.ensures.some refl in
    let before : (f : Option ℕ) → f ≡ c.options.found → found_or f k (o ∷ xs) ≡ only_jumbo_payload 2 (options_in (drop 2 h)) =
    λ f same. ap (λ g. found_or g k (o ∷ xs)) same ∙ (sym (ap (found_or c.options.found k) next) ∙ c.options.invariant.rest) in
    let after : (f : Option ℕ) → found_or f (k + c.encoded_len-offset.result) (options_in (drop (k + c.encoded_len-offset.result) h)) ≡ found_or f (k + n) xs =
    λ f. ap (λ i. found_or f (k + i) (options_in (drop (k + i) h))) len in
    record {
      within = omega (arith, c.in-Some.ensures.within, len, ap length (rest_is h k), length-drop k h, c.options.invariant.within);
      found = elim c.if-option.branch [
        | then-option+else-is_some w ↦ subst (λ f. IfSome f (λ j. j ≤ length h)) (sym w.found-is) c.options.invariant.within
        | else-option w ↦ subst (λ f. IfSome f (λ j. j ≤ length h)) (sym w.found-is) c.options.invariant.found
      ];
      rest = elim c.if-option.branch [
        | then-option+else-is_some w ↦
            after c.if-option.found
            ∙ (ap (λ f. found_or f (k + n) xs) w.found-is
            ∙ (sym (found_here c.options.found k o xs (sym w.is_some.ensures ∙ w.if-is_some.false) (eq-eqb o.option_type 0xc2 w.if-option.true)) ∙ before c.options.found refl))
        | else-option w ↦
            after c.if-option.found
            ∙ (ap (λ f. found_or f (k + n) xs) w.found-is ∙ (sym (found_more c.options.found k o xs (ne_eqb o.option_type 0xc2 w.if-option.false)) ∙ before c.options.found refl))
      ];
    }

pub returns-clause-only : goal.returns-clause-only
returns-clause-only c =
    let h : List ℕ = c.args.header.now in
    let k : ℕ = c.options.offset in
    let ends : options_in (drop k h) ≡ [] = sym (ap options_in (rest_is h k)) ∙ none (take (length h - k) (drop k h)) c.in_default.ensures.none in
    sym (found_end c.options.found k) ∙ (sym (ap (found_or c.options.found k) ends) ∙ c.options.invariant.rest)
