-- Places in a text and in its end.
use Rattle.std.proofs.lemmas.List.{get_or-drop}
use Rattle.ip_spec.proofs.Common.{◌≡◌, ℕ, ◌+◌, ◌-◌, ◌≤◌, List, ◌++◌, length, drop, get_or, sym, ap, ◌∙◌, arith, append_assoc, drop-drop}
use Rattle.ip_filter.specs.Words.{Word, words, is_white_space}
use Rattle.ip_filter.specs.Reading.{IsSuffix, IsPlace}

pub whole : (text : List ℕ) → IsSuffix text text
whole text = (omega arith, ap (λ k. drop k text) (let e : 0 ≡ length text - length text = omega arith in e))

module _ (text rest : List ℕ) (e : IsSuffix text rest) where
  -- the bytes from a place in the end
  pub from_place : (left : ℕ) → left ≤ length rest → drop (length rest - left) rest ≡ drop (length text - left) text
  from_place left within =
      let shorter = e.0 in
      ap (drop (length rest - left)) e.1 ∙ drop-drop (length rest - left) (length text - length rest) text
      ∙ ap (λ k. drop k text) (let f : length text - length rest + (length rest - left) ≡ length text - left = omega (arith, shorter, within) in f)

  pub end_of_end : (last : List ℕ) → IsSuffix rest last → IsSuffix text last
  end_of_end last f = let shorter = e.0 in let shortest = f.0 in (omega (arith, shorter, shortest), f.1 ∙ from_place (length last) f.0)

  pub place_in_end : (front before : List Word) (left : ℕ) → words text ≡ front ++ words rest → IsPlace rest before left → IsPlace text (front ++ before) left
  place_in_end front before left begins p =
      let shorter = e.0 in let within = p.within in
      record {
        within = omega (arith, shorter, within);
        words_before = begins ∙ ap (λ ws. front ++ ws) (p.words_before ∙ ap (λ s. before ++ words s) (from_place left p.within)) ∙ sym (append_assoc front before _);
        begins = λ some.
            ap is_white_space (
            ap (λ k. get_or text k 0) (let f : length text - left ≡ length text - length rest + (length rest - left) = omega (arith, shorter, within) in f)
            ∙ sym (get_or-drop (length text - length rest) text (length rest - left) 0) ∙ ap (λ s. get_or s (length rest - left) 0) (sym e.1))
            ∙ p.begins some;
      }
