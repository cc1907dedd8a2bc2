-- What follows the first word of an access: bits in parentheses or alone, a comparison, a mask.
use Rattle.std.specs.Prelude.{Option, Bool, bit_or, if◌then◌else◌}
use Rattle.std.specs.Option.{option_map, option_and_then}
use Rattle.std.specs.Str.{bytes_eq}
use Rattle.std.proofs.Common.{Some, None, is_some, codes, true, false}
use Rattle.std.proofs.lemmas.Bool.{cases_Bool}
use Rattle.std.proofs.lemmas.List.{append-nil, append_cancel_right}
use Rattle.ip_spec.proofs.Common.{◌≡◌, ℕ, ◌<◌, arith, List, [], ◌∷◌, ◌++◌, length, take, refl, sym, ap, ◌∙◌, subst, append_assoc, ◌⊎◌, inl, inr}
use Rattle.ip_filter.specs.declared.parse_error.Expected.{Expected}
use Rattle.ip_filter.specs.declared.parse_error.Expected.TheVariants as expects
use Rattle.ip_filter.specs.declared.words.Word.{Word as FirstWord}
use Rattle.ip_filter.specs.declared.term.Comparison.{Comparison}
use Rattle.ip_filter.specs.declared.term.Comparison.TheVariants as by
use Rattle.ip_filter.specs.declared.term.ComparedBits.{ComparedBits}
use Rattle.ip_filter.specs.Words.{Word, words}
use Rattle.ip_filter.specs.Numbers.{comparison_of}
use Rattle.ip_filter.specs.AccessWords.{bits_of, ends_joined_bits, first_at, next_at, joined_bits, bits_at, compared_bits, number_compared_at, compared_at, compared_bits_at, AreComparedBits}
use Rattle.ip_filter.specs.Grammar.{Finds}
use Rattle.ip_filter.specs.Reading.{IsSuffix, IsPlace, IsFirstWord, ReadsArgument, RefusesArgument, ReadsArguments, RefusesArguments, LastIs, WantsArgument, IsAccess, EndMask, WantBits, WantJoinedBits, ReadsAt, RefusesAt, BeginsAnd, ReadsJoined}
use Rattle.ip_filter.proofs.WordLemmas.{same_word}
use Rattle.ip_filter.proofs.PlaceLemmas.{whole, end_of_end, from_place, place_in_end}

-- ---- what follows changes nothing that was found

abbrev Extends : {A : Type 0} → (List Word → Option (A × List Word)) → Type 0
Extends {A} find = (ws rest more : List Word) (a : A) → find ws ≡ Some (a, rest) → find (ws ++ more) ≡ Some (a, rest ++ more)

first_extends : {A : Type 0} (find : Word → Option A) → Extends (first_at find)
first_extends find [] rest more a e = absurd (cc e)
first_extends {A} find (w ∷ ws) rest more a e = found (find w) e where
  found : (o : Option A) → option_map {U = A × List Word} (λ (b : A). (b, ws)) o ≡ Some (a, rest) → option_map {U = A × List Word} (λ (b : A). (b, ws ++ more)) o ≡ Some (a, rest ++ more)
  found None f = absurd (cc f)
  found (Some b) f = ap (option_map {U = A × List Word} (λ (r : A × List Word). (r.0, r.1 ++ more))) f

next_extends : {A B : Type 0} (first : List Word → Option (A × List Word)) (next : A → List Word → Option (B × List Word)) → Extends first → ((a : A) → Extends (next a)) → Extends (next_at first next)
next_extends {A} {B} first next one two ws rest more b e = found (first ws) refl e where
  found : (o : Option (A × List Word)) → first ws ≡ o → option_and_then (λ r. next r.0 r.1) o ≡ Some (b, rest) → next_at first next (ws ++ more) ≡ Some (b, rest ++ more)
  found None is f = absurd (cc f)
  found (Some r) is f = ap (option_and_then (λ q. next q.0 q.1)) (one ws r.1 more r.0 is) ∙ two r.0 r.1 rest more b f

joined_found : (f n : ℕ) (ws rest more : List Word) → ((g : ℕ) → joined_bits g ws ≡ Some (n, rest) → joined_bits g (ws ++ more) ≡ Some (n, rest ++ more)) → (o : Option ℕ) (ends : Option Bool)
    → option_and_then (λ k. option_and_then (λ last. if last then Some (bit_or f k, ws) else joined_bits (bit_or f k) ws) ends) o ≡ Some (n, rest)
    → option_and_then (λ k. option_and_then (λ last. if last then Some (bit_or f k, ws ++ more) else joined_bits (bit_or f k) (ws ++ more)) ends) o ≡ Some (n, rest ++ more)
joined_found f n ws rest more again None ends e = absurd (cc e)
joined_found f n ws rest more again (Some k) None e = absurd (cc e)
joined_found f n ws rest more again (Some k) (Some true) e = ap (option_map {U = ℕ × List Word} (λ (r : ℕ × List Word). (r.0, r.1 ++ more))) e
joined_found f n ws rest more again (Some k) (Some false) e = again (bit_or f k) e

joined_extends : (f : ℕ) → Extends (joined_bits f)
joined_extends f [] rest more n e = absurd (cc e)
joined_extends f (w ∷ []) rest more n e = absurd (cc e)
joined_extends f (w ∷ s ∷ ws) rest more n e = joined_found f n ws rest more (λ g. joined_extends g ws rest more n) (bits_of w) (ends_joined_bits s) e

bits_extend : Extends bits_at
bits_extend [] rest more n e = absurd (cc e)
bits_extend (w ∷ ws) rest more n e = found (bytes_eq w (codes "(")) e where
  found : (b : Bool) → (if b then joined_bits 0 ws else first_at bits_of (w ∷ ws)) ≡ Some (n, rest) → (if b then joined_bits 0 (ws ++ more) else first_at bits_of (w ∷ (ws ++ more))) ≡ Some (n, rest ++ more)
  found true f = joined_extends 0 ws rest more n f
  found false f = first_extends bits_of (w ∷ ws) rest more n f

number_extends : (mask : ℕ) (c : Comparison) → Extends (number_compared_at mask c)
number_extends mask c ws rest more x e = found (bits_at ws) refl e where
  found : (o : Option (ℕ × List Word)) → bits_at ws ≡ o → option_map {U = ComparedBits × List Word} (λ (r : ℕ × List Word). (compared_bits mask c r.0, r.1)) o ≡ Some (x, rest) → number_compared_at mask c (ws ++ more) ≡ Some (x, rest ++ more)
  found None is f = absurd (cc f)
  found (Some r) is f = ap (option_map {U = ComparedBits × List Word} (λ (q : ℕ × List Word). (compared_bits mask c q.0, q.1))) (bits_extend ws r.1 more r.0 is)
      ∙ ap (option_map {U = ComparedBits × List Word} (λ (q : ComparedBits × List Word). (q.0, q.1 ++ more))) f

compared_extends : (mask : ℕ) → Extends (compared_at mask)
compared_extends mask = next_extends (first_at comparison_of) (number_compared_at mask) (first_extends comparison_of) (number_extends mask)

all_extends : Extends compared_bits_at
all_extends [] rest more x e = absurd (cc e)
all_extends (w ∷ ws) rest more x e = found (bytes_eq w (codes "&")) e where
  found : (b : Bool) → (if b then next_at bits_at compared_at ws else compared_at 4294967295 (w ∷ ws)) ≡ Some (x, rest)
      → (if b then next_at bits_at compared_at (ws ++ more) else compared_at 4294967295 (w ∷ (ws ++ more))) ≡ Some (x, rest ++ more)
  found true f = next_extends bits_at compared_at bits_extend compared_extends ws rest more x f
  found false f = compared_extends 4294967295 (w ∷ ws) rest more x f

-- ---- one word, and one after another

module _ {A : Type 0} (find : Word → Option A) where
  first_read : (text rest : List ℕ) (a : A) → ReadsArgument (Finds find) text a rest → ReadsAt (first_at find) text a rest
  first_read text rest a r = record {
    front = r.word ∷ [];
    begins = r.begins;
    at = λ ws. ap (option_map {U = A × List Word} (λ (b : A). (b, ws))) r.writes;
    end = r.end;
  }

  first_refused : (w : Word) × (a : A) × Finds find w a → (After : List Word → Type 0) (text : List ℕ) (left : ℕ) (e : Expected) → ((us : List Word) → After us → WantsArgument us e)
      → RefusesArgument (Finds find) text left → RefusesAt (first_at find) After text left e
  first_refused some After text left e wants r = record {
    front = [];
    place = r.place;
    begins = (some.1, some.0 ∷ [], λ more. ap (option_map {U = A × List Word} (λ (b : A). (b, more))) some.2);
    expected = λ us after. subst (λ ws. WantsArgument ws e) (sym (append-nil us)) (wants us after);
    none = λ ws same. nothing ws (same ∙ ap (take 1) (sym r.place.words_before));
  } where
    not_found : (o : Option A) → ((a : A) → o ≡ Some a → ⊥) → (vs : List Word) → option_map {U = A × List Word} (λ (b : A). (b, vs)) o ≡ None
    not_found None never vs = refl
    not_found (Some a) never vs = absurd (never a refl)

    nothing : (ws : List Word) → take 1 ws ≡ take 1 (words text) → first_at find ws ≡ None
    nothing [] same = refl
    nothing (v ∷ vs) same = not_found (find v) (λ a is. r.none v a (sym same) is) vs

module _ {A B : Type 0} (first : List Word → Option (A × List Word)) (next : A → List Word → Option (B × List Word)) where
  next_read : (text mid rest : List ℕ) (a : A) (b : B) → ReadsAt first text a mid → ReadsAt (next a) mid b rest → ReadsAt (next_at first next) text b rest
  next_read text mid rest a b r s = record {
    front = r.front ++ s.front;
    begins = r.begins ∙ ap (λ ws. r.front ++ ws) s.begins ∙ sym (append_assoc r.front s.front (words rest));
    at = λ ws. ap (next_at first next) (append_assoc r.front s.front ws) ∙ ap (option_and_then (λ q. next q.0 q.1)) (r.at (s.front ++ ws)) ∙ s.at ws;
    end = end_of_end text mid r.end rest s.end;
  }

  first_missing : ((a : A) → (b : B) × (vs : List Word) × ((more : List Word) → next a (vs ++ more) ≡ Some (b, more))) → (After : List Word → Type 0) (text : List ℕ) (left : ℕ) (e : Expected)
      → RefusesAt first After text left e → RefusesAt (next_at first next) After text left e
  first_missing some After text left e r = let found = r.begins in let more_of = some found.0 in record {
    front = r.front;
    place = r.place;
    begins = (
      more_of.0,
      found.1 ++ more_of.1,
      λ more.
          ap (λ ws. next_at first next (r.front ++ ws)) (append_assoc found.1 more_of.1 more)
          ∙ ap (option_and_then (λ q. next q.0 q.1)) (found.2 (more_of.1 ++ more)) ∙ more_of.2 more,
    );
    expected = r.expected;
    none = λ ws same. ap (option_and_then (λ q. next q.0 q.1)) (r.none ws same);
  }

  next_missing : (After After2 : List Word → Type 0) (text mid : List ℕ) (a : A) (r : ReadsAt first text a mid) → ((us : List Word) → After us → After2 (us ++ r.front)) → (left : ℕ) (e : Expected)
      → RefusesAt (next a) After2 mid left e → RefusesAt (next_at first next) After text left e
  next_missing After After2 text mid a r leads left e s = let found = s.begins in record {
    front = r.front ++ s.front;
    place = place_in_end text mid r.end r.front s.front left r.begins s.place;
    begins = (
      found.0,
      found.1,
      λ more.
          ap (next_at first next) (append_assoc r.front s.front (found.1 ++ more))
          ∙ ap (option_and_then (λ q. next q.0 q.1)) (r.at (s.front ++ (found.1 ++ more))) ∙ found.2 more,
    );
    expected = λ us after. subst (λ ws. WantsArgument ws e) (append_assoc us r.front s.front) (s.expected (us ++ r.front) (leads us after));
    none = λ ws same.
        ap (next_at first next) (append_assoc r.front s.front ws) ∙ ap (option_and_then (λ q. next q.0 q.1)) (r.at (s.front ++ ws))
        ∙ s.none ws (same ∙ ap (λ t. take 1 (words t)) (sym (from_place text mid r.end left s.place.within)));
  }

-- ---- bits in parentheses

-- some bits
one_bit : (more : List Word) → bits_at (codes "0" ∷ more) ≡ Some (0, more)
one_bit more = refl

module _ (f : ℕ) (text mid : List ℕ) (n : ℕ) (one : ReadsArgument (Finds bits_of) text n mid) where
  pub joined_sign : (ends : Bool) (rest : List ℕ) → ReadsArgument (Finds ends_joined_bits) mid ends rest → ReadsJoined text n ends rest
  joined_sign ends rest two = record {
    word = one.word;
    sign = two.word;
    begins = one.begins ∙ ap (λ ws. one.word ∷ ws) two.begins;
    bits = one.writes;
    goes_on = two.writes;
    end = end_of_end text mid one.end rest two.end;
  }

  pub no_sign : (left : ℕ) (e : Expected) → RefusesArgument (Finds ends_joined_bits) mid left × (e ≡ expects.JoinedBitsEnd) → RefusesAt (joined_bits f) WantJoinedBits text left e
  no_sign left e r = rw r.1 (record {
    front = one.word ∷ [];
    place = place_in_end text mid one.end (one.word ∷ []) [] left one.begins r.0.place;
    begins = (bit_or f n, codes ")" ∷ [], λ more. rw one.writes refl);
    expected = λ us after. (us, one.word, refl, ap is_some one.writes, after);
    none = λ ws same. nothing ws (same ∙ ap (λ t. take 1 (words t)) (sym (from_place text mid one.end left r.0.place.within)) ∙ ap (take 1) (sym r.0.place.words_before));
  }) where
    ended : (o : Option Bool) → ((b : Bool) → o ≡ Some b → ⊥) → (k : Option ℕ) (vs : List Word)
        → option_and_then (λ m. option_and_then (λ last. if last then Some (bit_or f m, vs) else joined_bits (bit_or f m) vs) o) k ≡ None
    ended None never None vs = refl
    ended None never (Some k) vs = refl
    ended (Some b) never k vs = absurd (never b refl)

    nothing : (ws : List Word) → take 1 ws ≡ take 1 (words mid) → joined_bits f (one.word ∷ ws) ≡ None
    nothing [] same = refl
    nothing (v ∷ vs) same = ended (ends_joined_bits v) (λ b is. r.0.none v b (sym same) is) (bits_of one.word) vs

pub no_joined_bit : (f : ℕ) (text : List ℕ) (left : ℕ) (e : Expected) → RefusesArgument (Finds bits_of) text left × (e ≡ expects.JoinedBits) → RefusesAt (joined_bits f) WantJoinedBits text left e
no_joined_bit f text left e r = rw r.1 (record {
  front = [];
  place = r.0.place;
  begins = (bit_or f 0, codes "0" ∷ codes ")" ∷ [], λ more. refl);
  expected = λ us after. subst WantJoinedBits (sym (append-nil us)) after;
  none = λ ws same. nothing ws (same ∙ ap (take 1) (sym r.0.place.words_before));
}) where
  no_bits : (o : Option ℕ) → ((n : ℕ) → o ≡ Some n → ⊥) → (ends : Option Bool) (vs : List Word)
      → option_and_then (λ m. option_and_then (λ last. if last then Some (bit_or f m, vs) else joined_bits (bit_or f m) vs) ends) o ≡ None
  no_bits None never ends vs = refl
  no_bits (Some n) never ends vs = absurd (never n refl)

  nothing : (ws : List Word) → take 1 ws ≡ take 1 (words text) → joined_bits f ws ≡ None
  nothing [] same = refl
  nothing (v ∷ []) same = refl
  nothing (v ∷ s ∷ vs) same = no_bits (bits_of v) (λ n is. r.0.none v n (sym same) is) (ends_joined_bits s) vs

-- The text begins with some of the bits in parentheses, f, and `|` after each, and `rest` follows them.
pub record JoinedSoFar (text : List ℕ) (f : ℕ) (rest : List ℕ) : Type 0 where
  pub front : List Word
  pub begins : words text ≡ front ++ words rest
  pub end : IsSuffix text rest
  pub at : (ws : List Word) → joined_bits 0 (front ++ ws) ≡ joined_bits f ws
  pub wants : (us : List Word) → WantJoinedBits us → WantJoinedBits (us ++ front)

pub none_so_far : (text : List ℕ) → JoinedSoFar text 0 text
none_so_far text = record {
  front = [];
  begins = refl;
  end = whole text;
  at = λ ws. refl;
  wants = λ us wants. subst WantJoinedBits (sym (append-nil us)) wants;
}

module _ (text mid : List ℕ) (f : ℕ) (so : JoinedSoFar text f mid) where
  module _ (n : ℕ) (rest : List ℕ) where
    -- f with one more
    more_is : (ends : Bool) (r : ReadsJoined mid n ends rest) (ws : List Word) → joined_bits 0 ((so.front ++ r.word ∷ r.sign ∷ []) ++ ws) ≡ (if ends then Some (bit_or f n, ws) else joined_bits (bit_or f n) ws)
    more_is ends r ws = ap (joined_bits 0) (append_assoc so.front (r.word ∷ r.sign ∷ []) ws) ∙ so.at (r.word ∷ r.sign ∷ ws) ∙ rw (r.bits, r.goes_on) refl

    more_begin : (ends : Bool) (r : ReadsJoined mid n ends rest) → words text ≡ (so.front ++ r.word ∷ r.sign ∷ []) ++ words rest
    more_begin ends r = so.begins ∙ ap (λ ws. so.front ++ ws) r.begins ∙ sym (append_assoc so.front (r.word ∷ r.sign ∷ []) (words rest))

    one_more : ReadsJoined mid n false rest → JoinedSoFar text (bit_or f n) rest
    one_more r = record {
      front = so.front ++ r.word ∷ r.sign ∷ [];
      begins = more_begin false r;
      end = end_of_end text mid so.end rest r.end;
      at = more_is false r;
      wants = λ us wants.
          let bar : r.sign ≡ codes "|" = is_bar r.sign r.goes_on in
          inr (us ++ (so.front ++ r.word ∷ []), r.sign, ap (λ ws. us ++ ws) (sym (append_assoc so.front (r.word ∷ []) (r.sign ∷ []))) ∙ sym (append_assoc us (so.front ++ r.word ∷ []) (r.sign ∷ [])), bar);
    } where
      is_bar : (s : Word) → ends_joined_bits s ≡ Some false → s ≡ codes "|"
      is_bar s e = elim (cases_Bool (bytes_eq s (codes ")"))) [
        | inl close ↦ absurd (cc (sym e ∙ ap (λ b. if b then Some true else if bytes_eq s (codes "|") then Some false else None) close))
        | inr other ↦ elim (cases_Bool (bytes_eq s (codes "|"))) [
          | inl bar ↦ same_word s (codes "|") bar
          | inr not_bar ↦ absurd (cc (sym e ∙ ap (λ b. if b then Some true else if bytes_eq s (codes "|") then Some false else None) other ∙ ap (λ b. if b then Some false else None) not_bar))
        ]
      ]

    all_joined : ReadsJoined mid n true rest → ReadsAt (joined_bits 0) text (bit_or f n) rest
    all_joined r = record {
      front = so.front ++ r.word ∷ r.sign ∷ [];
      begins = more_begin true r;
      at = more_is true r;
      end = end_of_end text mid so.end rest r.end;
    }

    pub joined_go_on : (ends : Bool) → ReadsJoined mid n ends rest → ends ≡ false → JoinedSoFar text (bit_or f n) rest
    joined_go_on ends r is = one_more (subst (λ b. ReadsJoined mid n b rest) is r)

    pub joined_end : (ends : Bool) → ReadsJoined mid n ends rest → ends ≡ true → ReadsAt (joined_bits 0) text (bit_or f n) rest
    joined_end ends r is = all_joined (subst (λ b. ReadsJoined mid n b rest) is r)

    pub fewer_left : (ends : Bool) → ReadsJoined mid n ends rest → length (words rest) < length (words mid)
    fewer_left ends r = let e = ap length r.begins in omega (arith, e)

  pub joined_refused : (left : ℕ) (e : Expected) → ((g : ℕ) → RefusesAt (joined_bits g) WantJoinedBits mid left e) → RefusesAt (joined_bits 0) WantJoinedBits text left e
  joined_refused left e each = let r = each f in let found = r.begins in record {
    front = so.front ++ r.front;
    place = place_in_end text mid so.end so.front r.front left so.begins r.place;
    begins = (found.0, found.1, λ more. ap (joined_bits 0) (append_assoc so.front r.front (found.1 ++ more)) ∙ so.at (r.front ++ (found.1 ++ more)) ∙ found.2 more);
    expected = λ us after. subst (λ ws. WantsArgument ws e) (append_assoc us so.front r.front) (r.expected (us ++ so.front) (so.wants us after));
    none = λ ws same.
        ap (joined_bits 0) (append_assoc so.front r.front ws) ∙ so.at (r.front ++ ws)
        ∙ r.none ws (same ∙ ap (λ t. take 1 (words t)) (sym (from_place text mid so.end left r.place.within)));
  }

-- ---- bits

module _ (text : List ℕ) (w : FirstWord) (is : IsFirstWord text w) where
  module _ (opens : bytes_eq w.bytes.now (codes "(") ≡ true) where
    open_is : w.bytes.now ≡ codes "("
    open_is = same_word w.bytes.now (codes "(") opens

    pub several_bits : (n : ℕ) (rest : List ℕ) → ReadsAt (joined_bits 0) w.rest.now n rest → ReadsAt bits_at text n rest
    several_bits n rest r = record {
      front = w.bytes.now ∷ r.front;
      begins = is.begins ∙ ap (λ ws. w.bytes.now ∷ ws) r.begins;
      at = λ ws. rw opens (r.at ws);
      end = end_of_end text w.rest.now is.end rest r.end;
    }

    pub several_refused : (left : ℕ) (e : Expected) → RefusesAt (joined_bits 0) WantJoinedBits w.rest.now left e → RefusesAt bits_at WantBits text left e
    several_refused left e r = let found = r.begins in record {
      front = w.bytes.now ∷ r.front;
      place = place_in_end text w.rest.now is.end (w.bytes.now ∷ []) r.front left is.begins r.place;
      begins = (found.0, found.1, λ more. rw opens (found.2 more));
      expected = λ us after.
          let wants = r.expected (us ++ w.bytes.now ∷ []) (inl (us, ap (λ v. us ++ v ∷ []) open_is, after)) in
          subst (λ ws. WantsArgument ws e) (append_assoc us (w.bytes.now ∷ []) r.front) wants;
      none = λ ws same. rw opens (r.none ws (same ∙ ap (λ t. take 1 (words t)) (sym (from_place text w.rest.now is.end left r.place.within))));
    }

  module _ (alone : bytes_eq w.bytes.now (codes "(") ≡ false) where
    pub one_bits : (n : ℕ) → Some n ≡ bits_of w.bytes.now → ReadsAt bits_at text n w.rest.now
    one_bits n found = record {
      front = w.bytes.now ∷ [];
      begins = is.begins;
      at = λ ws. let is_bits : bits_of w.bytes.now ≡ Some n = sym found in rw (alone, is_bits) refl;
      end = is.end;
    }

    pub other_bits : None ≡ bits_of w.bytes.now → RefusesAt bits_at WantBits text w.left expects.Bits
    other_bits none = record {
      front = [];
      place = is.place;
      begins = (0, codes "0" ∷ [], λ more. one_bit more);
      expected = λ us after. subst WantBits (sym (append-nil us)) after;
      none = λ ws same. nothing ws (same ∙ ap (take 1) (sym is.place.words_before ∙ is.begins));
    } where
      nothing : (ws : List Word) → take 1 ws ≡ w.bytes.now ∷ [] → bits_at ws ≡ None
      nothing [] same = refl
      nothing (v ∷ vs) same = let e : v ≡ w.bytes.now = cc same in let no_bits_of : bits_of w.bytes.now ≡ None = sym none in rw (e, alone, no_bits_of) refl

pub no_bits : (text : List ℕ) (left : ℕ) (e : Expected) → (words text ≡ []) × IsPlace text [] left × (e ≡ expects.Bits) → RefusesAt bits_at WantBits text left e
no_bits text left e r = rw r.2 (record {
  front = [];
  place = r.1;
  begins = (0, codes "0" ∷ [], λ more. one_bit more);
  expected = λ us after. subst WantBits (sym (append-nil us)) after;
  none = λ ws same. nothing ws (same ∙ ap (take 1) (sym r.1.words_before ∙ r.0));
}) where
  nothing : (ws : List Word) → take 1 ws ≡ [] → bits_at ws ≡ None
  nothing [] same = refl
  nothing (v ∷ vs) same = absurd (cc same)

-- ---- what bits are compared with

module _ (mask : ℕ) (c : Comparison) (text : List ℕ) where
  pub number_read : (n : ℕ) (rest : List ℕ) → ReadsAt bits_at text n rest → ReadsAt (number_compared_at mask c) text (compared_bits mask c n) rest
  number_read n rest r = record {
    front = r.front;
    begins = r.begins;
    at = λ ws. ap (option_map {U = ComparedBits × List Word} (λ (q : ℕ × List Word). (compared_bits mask c q.0, q.1))) (r.at ws);
    end = r.end;
  }

  pub number_refused : (left : ℕ) (e : Expected) → RefusesAt bits_at WantBits text left e → RefusesAt (number_compared_at mask c) WantBits text left e
  number_refused left e r = let found = r.begins in record {
    front = r.front;
    place = r.place;
    begins = (compared_bits mask c found.0, found.1, λ more. ap (option_map {U = ComparedBits × List Word} (λ (q : ℕ × List Word). (compared_bits mask c q.0, q.1))) (found.2 more));
    expected = r.expected;
    none = λ ws same. ap (option_map {U = ComparedBits × List Word} (λ (q : ℕ × List Word). (compared_bits mask c q.0, q.1))) (r.none ws same);
  }

-- some number may follow any comparison, and some comparison any mask
some_number : (mask : ℕ) (c : Comparison) → (x : ComparedBits) × (vs : List Word) × ((more : List Word) → number_compared_at mask c (vs ++ more) ≡ Some (x, more))
some_number mask c = (compared_bits mask c 0, codes "0" ∷ [], λ more. refl)

some_comparison : (mask : ℕ) → (x : ComparedBits) × (vs : List Word) × ((more : List Word) → compared_at mask (vs ++ more) ≡ Some (x, more))
some_comparison mask = (compared_bits mask by.Equal 0, codes "=" ∷ codes "0" ∷ [], λ more. refl)

-- After the mask or the first word of the access, a comparison is read.
module _ (mask : ℕ) (After : List Word → Type 0) (text : List ℕ) where
  comparison_missing : (left : ℕ) (e : Expected) → ((us : List Word) → After us → WantsArgument us e) → RefusesArgument (Finds comparison_of) text left → RefusesAt (compared_at mask) After text left e
  comparison_missing left e wants r =
      first_missing (first_at comparison_of) (number_compared_at mask) (some_number mask) After text left e
      (first_refused comparison_of (codes "=", by.Equal, refl) After text left e wants r)

  module _ (c : Comparison) (mid : List ℕ) (one : ReadsArgument (Finds comparison_of) text c mid) where
    compared_is_read : (x : ComparedBits) (rest : List ℕ) → ReadsAt (number_compared_at mask c) mid x rest → ReadsAt (compared_at mask) text x rest
    compared_is_read x rest r = next_read (first_at comparison_of) (number_compared_at mask) text mid rest c x (first_read comparison_of text mid c one) r

    compared_is_refused : ((us : List Word) → After us → LastIs IsAccess us ⊎ EndMask us) → (left : ℕ) (e : Expected) → RefusesAt (number_compared_at mask c) WantBits mid left e → RefusesAt (compared_at mask) After text left e
    unfolding first_read
    compared_is_refused ends left e r =
        next_missing (first_at comparison_of) (number_compared_at mask) After WantBits text mid c (first_read comparison_of text mid c one)
        (λ us after. inr (us, one.word, refl, ap is_some one.writes, ends us after)) left e r

-- after a mask
module _ (mask : ℕ) (text : List ℕ) where
  pub masked_missing : (left : ℕ) (e : Expected) → RefusesArgument (Finds comparison_of) text left × (e ≡ expects.Comparison) → RefusesAt (compared_at mask) EndMask text left e
  masked_missing left e r = rw r.1 (comparison_missing mask EndMask text left expects.Comparison (λ us after. inr after) r.0)

  pub masked_read : (c : Comparison) (mid : List ℕ) → ReadsArgument (Finds comparison_of) text c mid → (x : ComparedBits) (rest : List ℕ) → ReadsAt (number_compared_at mask c) mid x rest
      → ReadsAt (compared_at mask) text x rest
  masked_read c mid one = compared_is_read mask EndMask text c mid one

  pub masked_refused : (c : Comparison) (mid : List ℕ) → ReadsArgument (Finds comparison_of) text c mid → (left : ℕ) (e : Expected) → RefusesAt (number_compared_at mask c) WantBits mid left e
      → RefusesAt (compared_at mask) EndMask text left e
  masked_refused c mid one = compared_is_refused mask EndMask text c mid one (λ us after. inr after)

-- ---- with a mask or without

-- what is found without a mask
unmasked : (ws : List Word) (x : ComparedBits × List Word) → compared_at 4294967295 ws ≡ Some x → compared_bits_at ws ≡ Some x
unmasked [] x e = absurd (cc e)
unmasked (w ∷ ws) x e = elim (cases_Bool (bytes_eq w (codes "&"))) [
  | inl sign ↦ absurd (cc (sym e ∙ ap (λ v. compared_at 4294967295 (v ∷ ws)) (same_word w (codes "&") sign)))
  | inr other ↦ rw other e
]

module _ (text : List ℕ) (other : take 1 (words text) ≡ codes "&" ∷ [] → ⊥) where
  -- nothing is found with a mask in words that begin like the text
  no_mask : (ws : List Word) → take 1 ws ≡ take 1 (words text) → compared_at 4294967295 ws ≡ None → compared_bits_at ws ≡ None
  no_mask [] same e = refl
  no_mask (w ∷ ws) same e = elim (cases_Bool (bytes_eq w (codes "&"))) [
    | inl sign ↦ absurd (other (sym same ∙ ap (λ v. v ∷ []) (same_word w (codes "&") sign)))
    | inr not_sign ↦ rw not_sign e
  ]

  alike : (us ws tail : List Word) → take 1 ws ≡ take 1 tail → take 1 (us ++ ws) ≡ take 1 (us ++ tail)
  alike [] ws tail e = e
  alike (u ∷ us) ws tail e = refl

  without_mask_refused : (left : ℕ) (e : Expected) → RefusesAt (compared_at 4294967295) (LastIs IsAccess) text left e → RefusesAt compared_bits_at (LastIs IsAccess) text left e
  without_mask_refused left e r = let found = r.begins in record {
    front = r.front;
    place = r.place;
    begins = (found.0, found.1, λ more. unmasked (r.front ++ (found.1 ++ more)) (found.0, more) (found.2 more));
    expected = r.expected;
    none = λ ws same. no_mask (r.front ++ ws) (alike r.front ws _ same ∙ ap (take 1) (sym r.place.words_before)) (r.none ws same);
  }

  pub no_comparison_or_mask : (left : ℕ) (e : Expected) → RefusesArgument (Finds comparison_of) text left × (e ≡ expects.MaskOrComparison) → RefusesAt compared_bits_at (LastIs IsAccess) text left e
  no_comparison_or_mask left e r =
      rw r.1 (without_mask_refused left expects.MaskOrComparison (comparison_missing 4294967295 (LastIs IsAccess) text left expects.MaskOrComparison (λ us after. after) r.0))

  module _ (c : Comparison) (mid : List ℕ) (one : ReadsArgument (Finds comparison_of) text c mid) where
    pub unmasked_read : (x : ComparedBits) (rest : List ℕ) → ReadsAt (number_compared_at 4294967295 c) mid x rest → ReadsAt compared_bits_at text x rest
    unmasked_read x rest s = let r = compared_is_read 4294967295 (LastIs IsAccess) text c mid one x rest s in record {
      front = r.front;
      begins = r.begins;
      at = λ ws. unmasked (r.front ++ ws) (x, ws) (r.at ws);
      end = r.end;
    }

    pub unmasked_refused : (left : ℕ) (e : Expected) → RefusesAt (number_compared_at 4294967295 c) WantBits mid left e → RefusesAt compared_bits_at (LastIs IsAccess) text left e
    unmasked_refused left e s = without_mask_refused left e (compared_is_refused 4294967295 (LastIs IsAccess) text c mid one (λ us after. inl after) left e s)

-- after `&`
module _ (text mid : List ℕ) (b : BeginsAnd text mid) where
  sign_is : bytes_eq b.sign.bytes.now (codes "&") ≡ true
  sign_is = rw b.is_and refl

  begin_is : words text ≡ b.sign.bytes.now ∷ words mid
  begin_is = b.first.begins ∙ ap (λ t. b.sign.bytes.now ∷ words t) (sym b.after)

  end_is : IsSuffix text mid
  end_is = subst (IsSuffix text) (sym b.after) b.first.end

  mask_read : (x : ComparedBits) (rest : List ℕ) → ReadsAt (next_at bits_at compared_at) mid x rest → ReadsAt compared_bits_at text x rest
  mask_read x rest r = record {
    front = b.sign.bytes.now ∷ r.front;
    begins = begin_is ∙ ap (λ ws. b.sign.bytes.now ∷ ws) r.begins;
    at = λ ws. rw sign_is (r.at ws);
    end = end_of_end text mid end_is rest r.end;
  }

  mask_is_refused : (After : List Word → Type 0) → ((us : List Word) → LastIs IsAccess us → After (us ++ b.sign.bytes.now ∷ [])) → (left : ℕ) (e : Expected) → RefusesAt (next_at bits_at compared_at) After mid left e
      → RefusesAt compared_bits_at (LastIs IsAccess) text left e
  mask_is_refused After ends left e r = let found = r.begins in record {
    front = b.sign.bytes.now ∷ r.front;
    place = place_in_end text mid end_is (b.sign.bytes.now ∷ []) r.front left begin_is r.place;
    begins = (found.0, found.1, λ more. rw sign_is (found.2 more));
    expected = λ us after. subst (λ ws. WantsArgument ws e) (append_assoc us (b.sign.bytes.now ∷ []) r.front) (r.expected (us ++ b.sign.bytes.now ∷ []) (ends us after));
    none = λ ws same. rw sign_is (r.none ws (same ∙ ap (λ t. take 1 (words t)) (sym (from_place text mid end_is left r.place.within))));
  }

  pub no_mask_bits : (left : ℕ) (e : Expected) → RefusesAt bits_at WantBits mid left e → RefusesAt compared_bits_at (LastIs IsAccess) text left e
  no_mask_bits left e r =
      mask_is_refused WantBits (λ us after. inl (us, b.sign.bytes.now, refl, b.is_and)) left e (first_missing bits_at compared_at some_comparison WantBits mid left e r)

  module _ (mask : ℕ) (after : List ℕ) (m : ReadsAt bits_at mid mask after) where
    pub with_mask_read : (x : ComparedBits) (rest : List ℕ) → ReadsAt (compared_at mask) after x rest → ReadsAt compared_bits_at text x rest
    with_mask_read x rest r = mask_read x rest (next_read bits_at compared_at mid after rest mask x m r)

    -- the first word of an access and `&`
    abbrev AccessAnd : List Word → Type 0
    AccessAnd ws = (front : List Word) × (w : Word) × (ws ≡ front ++ w ∷ codes "&" ∷ []) × IsAccess w

    pub with_mask_refused : (left : ℕ) (e : Expected) → RefusesAt (compared_at mask) EndMask after left e → RefusesAt compared_bits_at (LastIs IsAccess) text left e
    with_mask_refused left e r =
        mask_is_refused AccessAnd (λ us last. (
          last.0,
          last.1,
          ap (λ v. us ++ v ∷ []) b.is_and ∙ ap (λ ws. ws ++ codes "&" ∷ []) last.2 ∙ append_assoc last.0 (last.1 ∷ []) (codes "&" ∷ []),
          last.3,
        )) left e
        (next_missing bits_at compared_at AccessAnd EndMask mid after mask m (λ us last. (
          last.0,
          last.1,
          m.front,
          mask,
          ap (λ ws. ws ++ m.front) last.2 ∙ append_assoc last.0 (last.1 ∷ codes "&" ∷ []) m.front,
          last.3,
          ap bits_at (sym (append-nil m.front)) ∙ m.at [],
        )) left e r)

-- ---- all of it

abbrev pair_of : ComparedBits → List Word → ComparedBits × List Word
pair_of x ws = (x, ws)

abbrev found_is : ComparedBits → List Word → Option (ComparedBits × List Word)
found_is x ws = Some (x, ws)

pub bits_arguments : (text rest : List ℕ) (x : ComparedBits) → ReadsAt compared_bits_at text x rest → ReadsArguments AreComparedBits text x rest
bits_arguments text rest x r = record {
  args = r.front;
  begins = r.begins;
  writes = ap compared_bits_at (sym (append-nil r.front)) ∙ r.at [];
  end = r.end;
  only = λ y us ws more writes same.
      let both : found_is y more ≡ found_is x ws = sym (all_extends us [] more y writes) ∙ ap compared_bits_at same ∙ r.at ws in
      let found : (y ≡ x) × (more ≡ ws) = parts y x more ws both in
      (found.0, append_cancel_right us r.front more (same ∙ ap (λ vs. r.front ++ vs) (sym found.1)));
} where
  parts : (y z : ComparedBits) (us vs : List Word) → found_is y us ≡ found_is z vs → (y ≡ z) × (us ≡ vs)
  parts y z us vs e = let pair : pair_of y us ≡ pair_of z vs = cc e in (ap (λ (r : ComparedBits × List Word). r.0) pair, ap (λ (r : ComparedBits × List Word). r.1) pair)

pub bits_refused : (text : List ℕ) (left : ℕ) (e : Expected) → RefusesAt compared_bits_at (LastIs IsAccess) text left e → RefusesArguments AreComparedBits IsAccess text left e
bits_refused text left e r = let found = r.begins in record {
  before = r.front;
  place = r.place;
  begins = (found.0, found.1, ap (λ ws. compared_bits_at (r.front ++ ws)) (sym (append-nil found.1)) ∙ found.2 []);
  expected = λ w is. r.expected (w ∷ []) ([], w, refl, is);
  none = λ y us ws more writes same next. absurd (cc (sym (all_extends us [] more y writes) ∙ ap compared_bits_at same ∙ r.none ws next));
}
