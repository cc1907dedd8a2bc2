-- The words after a keyword.
use Rattle.ip_spec.proofs.Common.{◌≡◌, ℕ, ◌-◌, List, [], length, take, drop, sym, ap, ◌∙◌, arith, subst, drop_all}
use Rattle.ip_filter.specs.Words.{Word, words}
use Rattle.ip_filter.specs.declared.words.Word.{Word as FirstWord}
use Rattle.ip_filter.specs.Reading.{IsPlace, IsFirstWord, ReadsArgument, RefusesArgument}
use Rattle.ip_filter.proofs.WordLemmas.{no_words}

module _ (text : List ℕ) where
  pub end_of_text : words text ≡ [] → IsPlace text [] 0
  end_of_text e = record {
    within = omega arith;
    words_before = e ∙ sym (no_words (drop (length text - 0) text) (ap length (drop_all (length text - 0) text (omega arith))));
    begins = λ some. absurd (omega arith);
  }

module _ (text : List ℕ) (w : FirstWord) (is : IsFirstWord text w) where
  pub other_word : {A : Type 0} (Writes : Word → A → Type 0) → ((a : A) → Writes w.bytes.now a → ⊥) → RefusesArgument Writes text w.left
  other_word Writes none = record {
    place = is.place;
    none = λ v a one writes. let same : v ≡ w.bytes.now = cc (ap (take 1) is.begins) in none a (subst (λ x. Writes x a) same writes);
  }

  pub this_word : {A : Type 0} (Writes : Word → A → Type 0) (a : A) → Writes w.bytes.now a → ReadsArgument Writes text a w.rest.now
  this_word Writes a writes = record { word = w.bytes.now; begins = is.begins; writes = writes; end = is.end }
