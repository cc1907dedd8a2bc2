-- Terms: the keyword determines what follows it.
use Rattle.std.specs.Prelude.{Option}
use Rattle.std.specs.Str.{bytes_eq}
use Rattle.std.proofs.Common.{Some, None, is_some, codes, IsTrue}
use Rattle.ip_spec.proofs.Common.{◌≡◌, ℕ, List, [], ◌∷◌, ◌++◌, take, refl, sym, ap, ◌∙◌, subst, ◌||◌, ◌⊎◌, inl, inr}
use Rattle.ip_filter.specs.declared.term.Comparison.{Comparison}
use Rattle.ip_filter.specs.declared.term.Comparison.TheVariants as by
use Rattle.ip_filter.specs.declared.term.AccessedBytes.{AccessedBytes}
use Rattle.ip_filter.specs.declared.term.ComparedBits.{ComparedBits}
use Rattle.ip_filter.specs.declared.term.Quantity.{Quantity}
use Rattle.ip_filter.specs.declared.term.TcpFlags.{TcpFlags}
use Rattle.ip_filter.specs.declared.term.Term.{Term}
use Rattle.ip_filter.specs.declared.term.Term.TheVariants as term
use Rattle.ip_filter.specs.declared.keyword.Keyword.{Keyword}
use Rattle.ip_filter.specs.declared.keyword.Keyword.TheVariants as keyword
use Rattle.ip_filter.specs.declared.keyword.NumberKeyword.TheVariants as number
use Rattle.ip_filter.specs.declared.qualifiers.Protocol.{Protocol}
use Rattle.ip_filter.specs.declared.parse_error.Expected.{Expected}
use Rattle.ip_filter.specs.declared.parse_error.Expected.TheVariants as expects
use Rattle.ip_base.specs.declared.err.layer.Layer.{Layer}
use Rattle.ip_filter.specs.declared.term.FaultKind.{FaultKind}
use Rattle.ip_filter.specs.declared.words.Word.{Word as FirstWord}
use Rattle.ip_filter.specs.declared.layers.LayerError.{LayerError}
use Rattle.ip_filter.specs.declared.layers.LayerError.TheVariants as error
use Rattle.ip_filter.specs.Words.{Word, words}
use Rattle.ip_filter.specs.Numbers.{version_named, header_named, protocol_of, number_up_to, tcp_flags_of, names_in, comparison_of, fault_kind_of}
use Rattle.ip_filter.specs.IcmpTypes.{icmp_type_of, icmp6_type_of}
use Rattle.ip_filter.specs.AccessWords.{compared_bits_at, AreComparedBits}
use Rattle.ip_filter.specs.Qualifiers.{protocol_term, multicast_with}
use Rattle.ip_filter.specs.Operators.{is_and, is_or}
use Rattle.ip_filter.specs.Grammar.{AreArguments, IsOne, Finds, Make, AreCompared, layer_with}
use Rattle.ip_filter.specs.Reading.{IsFirstWord, BeginsOtherwise, ReadsArgument, RefusesArgument, ReadsArguments, RefusesArguments, ReadsTerm, RefusesTerm, WantsArgument, IsKeyword, IsCountKeyword, IsNumberKeyword, IsByteKeyword, LastIs, IsAccess, ReadsAt, RefusesAt, ends_term}
use Rattle.ip_filter.proofs.WordLemmas.{or_cases, either_word, same_word}
use Rattle.ip_filter.proofs.PlaceLemmas.{whole, end_of_end, from_place, place_in_end}
use Rattle.ip_filter.proofs.AccessLemmas.{bits_arguments, bits_refused}

-- ---- arguments

module _ {A : Type 0} (Writes : Word → A → Type 0) (unique : (w : Word) (a b : A) → Writes w a → Writes w b → a ≡ b) where
  one : (text rest : List ℕ) (a : A) → ReadsArgument Writes text a rest → ReadsArguments (IsOne Writes) text a rest
  one text rest a r = record {
    args = r.word ∷ [];
    begins = r.begins;
    writes = (r.word, refl, r.writes);
    end = r.end;
    only = λ b us ws more writes same.
        let head : writes.0 ≡ r.word = cc (sym (ap (λ x. x ++ more) writes.1) ∙ same) in
        (unique r.word b a (subst (λ w. Writes w b) head writes.2) r.writes, writes.1 ∙ ap (λ w. w ∷ []) head);
  }

  not_one : (w : Word) × (a : A) × Writes w a → (Is : Word → Type 0) (e : Expected) → ((k : Word) → Is k → WantsArgument (k ∷ []) e)
      → (text : List ℕ) (left : ℕ) (x : Expected) → RefusesArgument Writes text left × (x ≡ e) → RefusesArguments (IsOne Writes) Is text left x
  not_one some Is e due text left x r = record {
    before = [];
    place = r.0.place;
    begins = (some.1, some.0 ∷ [], (some.0, refl, some.2));
    expected = rw r.1 due;
    none = λ b us ws more writes same next.
        r.0.none writes.0 b (ap (take 1) r.0.place.words_before ∙ sym next ∙ ap (take 1) (sym same) ∙ ap (λ x. take 1 (x ++ more)) writes.1) writes.2;
  }

pub found_once : {A : Type 0} (find : Word → Option A) (w : Word) (a b : A) → Finds find w a → Finds find w b → a ≡ b
found_once find w a b p q = cc

-- a comparison and a number
module _ (text mid : List ℕ) (c : Comparison) (first : ReadsArgument (Finds comparison_of) text c mid) where
  pub count_read : (rest : List ℕ) (n : ℕ) → ReadsArgument (Finds (number_up_to 18446744073709551615)) mid n rest → ReadsArguments AreCompared text (c, n) rest
  count_read rest n second = record {
    args = first.word ∷ second.word ∷ [];
    begins = first.begins ∙ ap (λ ws. first.word ∷ ws) second.begins;
    writes = (first.word, second.word, refl, first.writes, second.writes);
    end = end_of_end text mid first.end rest second.end;
    only = λ b us ws more writes same.
        let all : writes.0 ∷ writes.1 ∷ more ≡ first.word ∷ second.word ∷ ws = sym (ap (λ x. x ++ more) writes.2) ∙ same in
        let o : writes.0 ≡ first.word = cc all in
        let w : writes.1 ≡ second.word = cc all in
        let left : b.0 ≡ c = found_once comparison_of first.word b.0 c (subst (λ x. Finds comparison_of x b.0) o writes.3) first.writes in
        let right : b.1 ≡ n = found_once (number_up_to 18446744073709551615) second.word b.1 n (subst (λ x. Finds (number_up_to 18446744073709551615) x b.1) w writes.4) second.writes in
        (ap (λ x. (x, b.1)) left ∙ ap (λ x. (c, x)) right, writes.2 ∙ ap (λ x. x ∷ writes.1 ∷ []) o ∙ ap (λ x. first.word ∷ x ∷ []) w);
  }

  pub no_number : (left : ℕ) (e : Expected) → RefusesArgument (Finds (number_up_to 18446744073709551615)) mid left × (e ≡ expects.Count)
      → RefusesArguments AreCompared IsCountKeyword text left e
  no_number left e r = let second = r.0 in record {
    before = first.word ∷ [];
    place = place_in_end text mid first.end (first.word ∷ []) [] left first.begins second.place;
    begins = ((c, 0), codes "0" ∷ [], (first.word, codes "0", refl, first.writes, refl));
    expected = rw r.1 (λ k is. ([], k, first.word, refl, is, ap is_some first.writes));
    none = λ b us ws more writes same next.
        let all : writes.0 ∷ writes.1 ∷ more ≡ first.word ∷ ws = sym (ap (λ x. x ++ more) writes.2) ∙ same in
        let rest : ws ≡ writes.1 ∷ more = cc all in
        second.none writes.1 b.1 (ap (take 1) (second.place.words_before ∙ ap words (from_place text mid first.end left second.place.within)) ∙ sym next ∙ ap (take 1) rest) writes.4;
  }

pub no_comparison : (text : List ℕ) (left : ℕ) (e : Expected) → RefusesArgument (Finds comparison_of) text left × (e ≡ expects.Comparison)
    → RefusesArguments AreCompared IsCountKeyword text left e
no_comparison text left e r = record {
  before = [];
  place = r.0.place;
  begins = ((by.Equal, 0), codes "=" ∷ codes "0" ∷ [], (codes "=", codes "0", refl, refl, refl));
  expected = rw r.1 (λ k is. inl ([], k, refl, is));
  none = λ b us ws more writes same next.
      r.0.none writes.0 b.0 (ap (take 1) r.0.place.words_before ∙ sym next ∙ ap (take 1) (sym same) ∙ ap (λ x. take 1 (x ++ more)) writes.2) writes.3;
}

-- some word writes flags
some_flags : (w : Word) × (f : TcpFlags) × Finds tcp_flags_of w f
unfolding names_in
some_flags = (codes "syn", record { set = 2; mask = 2 }, refl)

-- ---- keywords

-- After the keyword k, words that write a value are the term that `make` makes of it, and no others are a term.
module _ {A : Type 0} (k : Keyword) (Write : List Word → A → Type 0) (make : A → Term)
    (spelled : (us : List Word) (t : Term) → Make Write make us t → AreArguments k us t) (inverts : (us : List Word) (t : Term) → AreArguments k us t → Make Write make us t) where
  is_read : (text rest : List ℕ) (a : A) → ReadsArguments Write text a rest → ReadsTerm k text (make a) rest
  is_read text rest a r = record {
    args = r.args;
    begins = r.begins;
    arguments = spelled r.args (make a) (a, r.writes, refl);
    end = r.end;
    only = λ u us ws more au ends same next.
        let i = inverts us u au in
        let o = r.only i.0 us ws more i.1 same in
        (i.2 ∙ ap make o.0, o.1);
  }

  is_refused : (Is : Word → Type 0) → ((w : Word) → IsKeyword k w → Is w) → (text : List ℕ) (left : ℕ) (e : Expected) → RefusesArguments Write Is text left e → RefusesTerm k text left e
  is_refused Is one text left e r = record {
    before = r.before;
    place = r.place;
    begins = let b = r.begins in (make b.0, b.1, spelled (r.before ++ b.1) (make b.0) (b.0, b.2, refl));
    expected = λ w is. r.expected w (one w is);
    none = λ u us ws more au ends same next.
        let i = inverts us u au in
        r.none i.0 us ws more i.1 same next;
  }

-- ---- keywords that a word may follow

-- what such a word isn't
module _ {A : Type 0} (find : Word → Option A) (no_and : find (codes "and") ≡ None) (no_and_sign : find (codes "&&") ≡ None) (no_or : find (codes "or") ≡ None) (no_or_sign : find (codes "||") ≡ None) (no_close : find (codes ")") ≡ None) where
  goes_on : (w : Word) (ws : List Word) (a : A) → find w ≡ Some a → IsTrue (ends_term (w ∷ ws)) → ⊥
  goes_on w ws a found e =
      let IsNone = λ (l : Word). find l ≡ None in
      let none : IsNone w = elim (or_cases (is_and w || is_or w) (bytes_eq w (codes ")")) e) [
        | inl a ↦ elim (or_cases (is_and w) (is_or w) a) [ inl b ↦ either_word IsNone w (codes "and") (codes "&&") b no_and no_and_sign | inr b ↦ either_word IsNone w (codes "or") (codes "||") b no_or no_or_sign ]
        | inr x ↦ ap find (same_word w (codes ")") x) ∙ no_close
      ] in
      cc (sym found ∙ none)

kind_goes_on : (w : Word) (ws : List Word) (kind : FaultKind) → fault_kind_of w ≡ Some kind → IsTrue (ends_term (w ∷ ws)) → ⊥
kind_goes_on = goes_on fault_kind_of refl refl refl refl refl

layer_goes_on : (x : LayerError) (w : Word) (ws : List Word) (l : Layer) → layer_with x w ≡ Some l → IsTrue (ends_term (w ∷ ws)) → ⊥
layer_goes_on x = goes_on (layer_with x) refl refl refl refl refl

no_word : {A : Type 0} (find : Word → Option A) (text : List ℕ) → words text ≡ [] → BeginsOtherwise find text
no_word find text e w one = absurd (cc (ap (take 1) (sym e) ∙ one))

other_word : {A : Type 0} (find : Word → Option A) (text : List ℕ) (w : FirstWord) → IsFirstWord text w → None ≡ find w.bytes.now → BeginsOtherwise find text
other_word find text w is none v one = let same : v ≡ w.bytes.now = cc (sym one ∙ ap (take 1) is.begins) in ap find same ∙ sym none

pub no_word_is_no_layer : (x : LayerError) (text : List ℕ) → words text ≡ [] → BeginsOtherwise (layer_with x) text
no_word_is_no_layer x text e = no_word (layer_with x) text e

pub other_is_no_layer : (x : LayerError) (text : List ℕ) (w : FirstWord) → IsFirstWord text w → None ≡ layer_with x w.bytes.now → BeginsOtherwise (layer_with x) text
other_is_no_layer x text w is none = other_word (layer_with x) text w is none

pub no_word_is_no_multicast : (p : Protocol) (text : List ℕ) → words text ≡ [] → BeginsOtherwise (multicast_with p) text
no_word_is_no_multicast p text e = no_word (multicast_with p) text e

pub other_is_no_multicast : (p : Protocol) (text : List ℕ) (w : FirstWord) → IsFirstWord text w → None ≡ multicast_with p w.bytes.now → BeginsOtherwise (multicast_with p) text
other_is_no_multicast p text w is none = other_word (multicast_with p) text w is none

-- ---- a keyword that one word may follow

-- The keyword k alone is the term `plain`, and with a word in which `find` finds a value the term that `make` makes of it.
abbrev MayHaveOne : {A : Type 0} → (Word → Option A) → (A → Term) → Term → List Word → Term → Type 0
MayHaveOne find make plain args t = ((args ≡ []) × (t ≡ plain)) ⊎ Make (IsOne (Finds find)) make args t

module _ {A : Type 0} (k : Keyword) (find : Word → Option A) (make : A → Term) (plain : Term) (spelled : (us : List Word) (t : Term) → MayHaveOne find make plain us t → AreArguments k us t)
    (inverts : (us : List Word) (t : Term) → AreArguments k us t → MayHaveOne find make plain us t) where
  with_one : ((w : Word) (ws : List Word) (a : A) → find w ≡ Some a → IsTrue (ends_term (w ∷ ws)) → ⊥) → (text rest : List ℕ) (a : A) → ReadsArgument (Finds find) text a rest
      → ReadsTerm k text (make a) rest
  with_one goes text rest a r = record {
    args = r.word ∷ [];
    begins = r.begins;
    arguments = spelled (r.word ∷ []) (make a) (inr (a, (r.word, refl, r.writes), refl));
    end = r.end;
    only = λ u us ws more au ends same next. elim (inverts us u au) [
      | inl alone ↦
          let all : more ≡ r.word ∷ ws = sym (ap (λ x. x ++ more) alone.0) ∙ same in
          absurd (goes r.word ws a r.writes (subst (λ x. IsTrue (ends_term x)) all ends))
      | inr f ↦
          let head : f.1.0 ≡ r.word = cc (sym (ap (λ x. x ++ more) f.1.1) ∙ same) in
          let again : f.0 ≡ a = found_once find r.word f.0 a (subst (λ x. Finds find x f.0) head f.1.2) r.writes in
          (f.2 ∙ ap make again, f.1.1 ∙ ap (λ x. x ∷ []) head)
    ];
  }

  without_one : (text : List ℕ) → BeginsOtherwise find text → ReadsTerm k text plain text
  without_one text none = record {
    args = [];
    begins = refl;
    arguments = spelled [] plain (inl (refl, refl));
    end = whole text;
    only = λ u us ws more au ends same next. elim (inverts us u au) [
      | inl alone ↦ (alone.1, alone.0)
      | inr f ↦
          let head : take 1 (words text) ≡ f.1.0 ∷ [] = sym next ∙ ap (take 1) (sym same) ∙ ap (λ x. take 1 (x ++ more)) f.1.1 in
          absurd (cc (sym f.1.2 ∙ none f.1.0 head))
    ];
  }

pub truncated_at : (text rest : List ℕ) (l : Layer) → ReadsArgument (Finds (layer_with error.Truncated)) text l rest → ReadsTerm keyword.Truncated text (term.TruncatedAt l) rest
truncated_at = with_one keyword.Truncated (layer_with error.Truncated) term.TruncatedAt term.Truncated (λ us t m. m) (λ us t m. m) (layer_goes_on error.Truncated)

pub plain_truncated : (text : List ℕ) → BeginsOtherwise (layer_with error.Truncated) text → ReadsTerm keyword.Truncated text term.Truncated text
plain_truncated = without_one keyword.Truncated (layer_with error.Truncated) term.TruncatedAt term.Truncated (λ us t m. m) (λ us t m. m)

-- ---- `vlan`, which an identifier may follow

pub no_word_is_no_vlan : (text : List ℕ) → words text ≡ [] → BeginsOtherwise (number_up_to 4095) text
no_word_is_no_vlan text e = no_word (number_up_to 4095) text e

pub other_is_no_vlan : (text : List ℕ) (w : FirstWord) → IsFirstWord text w → None ≡ number_up_to 4095 w.bytes.now → BeginsOtherwise (number_up_to 4095) text
other_is_no_vlan text w is none = other_word (number_up_to 4095) text w is none

pub vlan_of : (text rest : List ℕ) (n : ℕ) → ReadsArgument (Finds (number_up_to 4095)) text n rest → ReadsTerm keyword.Vlan text (term.VlanOf n) rest
vlan_of = with_one keyword.Vlan (number_up_to 4095) term.VlanOf term.Vlan (λ us t m. m) (λ us t m. m) (goes_on (number_up_to 4095) refl refl refl refl refl)

pub plain_vlan : (text : List ℕ) → BeginsOtherwise (number_up_to 4095) text → ReadsTerm keyword.Vlan text term.Vlan text
plain_vlan = without_one keyword.Vlan (number_up_to 4095) term.VlanOf term.Vlan (λ us t m. m) (λ us t m. m)

module _ (p : Protocol) where
  multicast_goes_on : (w : Word) (ws : List Word) (t : Term) → multicast_with p w ≡ Some t → IsTrue (ends_term (w ∷ ws)) → ⊥
  multicast_goes_on = goes_on (multicast_with p) refl refl refl refl refl

  pub multicast_read : (text rest : List ℕ) (t : Term) → ReadsArgument (Finds (multicast_with p)) text t rest → ReadsTerm (keyword.Protocol p) text t rest
  multicast_read = with_one (keyword.Protocol p) (multicast_with p) (λ u. u) (protocol_term p) (λ us t m. m) (λ us t m. m) multicast_goes_on

  pub plain_protocol : (text : List ℕ) → BeginsOtherwise (multicast_with p) text → ReadsTerm (keyword.Protocol p) text (protocol_term p) text
  plain_protocol = without_one (keyword.Protocol p) (multicast_with p) (λ u. u) (protocol_term p) (λ us t m. m) (λ us t m. m)

-- ---- `fault`, which a kind may follow, and then a layer

module _ (text : List ℕ) (w : FirstWord) (kind : FaultKind) (is : IsFirstWord text w) (found : Some kind ≡ fault_kind_of w.bytes.now) where
  not_plain : (ws more : List Word) → more ≡ w.bytes.now ∷ ws → IsTrue (ends_term more) → ⊥
  not_plain ws more all ends = kind_goes_on w.bytes.now ws kind (sym found) (subst (λ x. IsTrue (ends_term x)) all ends)

  same_kind : (v : Word) (k : FaultKind) → v ≡ w.bytes.now → fault_kind_of v ≡ Some k → k ≡ kind
  same_kind v k head finds = found_once fault_kind_of w.bytes.now k kind (subst (λ x. Finds fault_kind_of x k) head finds) (sym found)

  pub fault_of : BeginsOtherwise (layer_with (error.Fault kind)) w.rest.now → ReadsTerm keyword.Fault text (term.FaultOf kind) w.rest.now
  fault_of none = record {
    args = w.bytes.now ∷ [];
    begins = is.begins;
    arguments = inr (inl (kind, (w.bytes.now, refl, sym found), refl));
    end = is.end;
    only = λ u us ws more au ends same next. elim au [
      | inl plain ↦ absurd (not_plain ws more (sym (ap (λ x. x ++ more) plain.0) ∙ same) ends)
      | inr one_or_two ↦ elim one_or_two [
        | inl f ↦
            let head : f.1.0 ≡ w.bytes.now = cc (sym (ap (λ x. x ++ more) f.1.1) ∙ same) in
            (f.2 ∙ ap term.FaultOf (same_kind f.1.0 f.0 head f.1.2), f.1.1 ∙ ap (λ x. x ∷ []) head)
        | inr g ↦
            let all : g.1.0 ∷ g.1.1 ∷ more ≡ w.bytes.now ∷ ws = sym (ap (λ x. x ++ more) g.1.2) ∙ same in
            let rest : ws ≡ g.1.1 ∷ more = cc all in
            let head : g.1.0 ≡ w.bytes.now = cc all in
            let found_there = subst (λ k. layer_with (error.Fault k) g.1.1 ≡ Some g.0.1) (same_kind g.1.0 g.0.0 head g.1.3) g.1.4 in
            absurd (cc (sym found_there ∙ none g.1.1 (sym next ∙ ap (take 1) rest)))
      ]
    ];
  }

  pub fault_at : (rest : List ℕ) (l : Layer) → ReadsArgument (Finds (layer_with (error.Fault kind))) w.rest.now l rest → ReadsTerm keyword.Fault text (term.FaultAt kind l) rest
  fault_at rest l r = record {
    args = w.bytes.now ∷ r.word ∷ [];
    begins = is.begins ∙ ap (λ ws. w.bytes.now ∷ ws) r.begins;
    arguments = inr (inr ((kind, l), (w.bytes.now, r.word, refl, sym found, r.writes), refl));
    end = end_of_end text w.rest.now is.end rest r.end;
    only = λ u us ws more au ends same next. elim au [
      | inl plain ↦ absurd (not_plain (r.word ∷ ws) more (sym (ap (λ x. x ++ more) plain.0) ∙ same) ends)
      | inr one_or_two ↦ elim one_or_two [
        | inl f ↦
            let all : f.1.0 ∷ more ≡ w.bytes.now ∷ r.word ∷ ws = sym (ap (λ x. x ++ more) f.1.1) ∙ same in
            let after : more ≡ r.word ∷ ws = cc all in
            absurd (layer_goes_on (error.Fault kind) r.word ws l r.writes (subst (λ x. IsTrue (ends_term x)) after ends))
        | inr g ↦
            let all : g.1.0 ∷ g.1.1 ∷ more ≡ w.bytes.now ∷ r.word ∷ ws = sym (ap (λ x. x ++ more) g.1.2) ∙ same in
            let head : g.1.0 ≡ w.bytes.now = cc all in
            let second : g.1.1 ≡ r.word = cc all in
            let again : g.0.1 ≡ l = found_once (layer_with (error.Fault kind)) r.word g.0.1 l (subst (λ x. Finds (layer_with (error.Fault kind)) x g.0.1) second (subst (λ k. layer_with (error.Fault k) g.1.1 ≡ Some g.0.1) (same_kind g.1.0 g.0.0 head g.1.3) g.1.4)) r.writes in (
              g.2 ∙ ap (λ k. term.FaultAt k g.0.1) (same_kind g.1.0 g.0.0 head g.1.3) ∙ ap (term.FaultAt kind) again,
              g.1.2 ∙ ap (λ x. x ∷ g.1.1 ∷ []) head ∙ ap (λ x. w.bytes.now ∷ x ∷ []) second,
            )
      ]
    ];
  }

plain_fault : (text : List ℕ) → BeginsOtherwise fault_kind_of text → ReadsTerm keyword.Fault text term.Fault text
plain_fault text none = record {
  args = [];
  begins = refl;
  arguments = inl (refl, refl);
  end = whole text;
  only = λ u us ws more au ends same next. elim au [
    | inl plain ↦ (plain.1, plain.0)
    | inr one_or_two ↦ elim one_or_two [
      | inl f ↦ absurd (cc (sym f.1.2 ∙ none f.1.0 (sym next ∙ ap (take 1) (sym same) ∙ ap (λ x. take 1 (x ++ more)) f.1.1)))
      | inr g ↦ absurd (cc (sym g.1.3 ∙ none g.1.0 (sym next ∙ ap (take 1) (sym same) ∙ ap (λ x. take 1 (x ++ more)) g.1.2)))
    ]
  ];
}

pub no_word_is_no_kind : (text : List ℕ) → words text ≡ [] → ReadsTerm keyword.Fault text term.Fault text
no_word_is_no_kind text e = plain_fault text (no_word fault_kind_of text e)

pub other_is_no_kind : (text : List ℕ) (w : FirstWord) → IsFirstWord text w → None ≡ fault_kind_of w.bytes.now → ReadsTerm keyword.Fault text term.Fault text
other_is_no_kind text w is none = plain_fault text (other_word fault_kind_of text w is none)

-- ---- terms by their keywords

module _ (text : List ℕ) where
  pub alone_read : (t : Term) → ReadsTerm (keyword.Alone t) text t text
  alone_read t = record {
    args = [];
    begins = refl;
    arguments = (refl, refl);
    end = whole text;
    only = λ u us ws more au ends same next. (au.1, au.0);
  }

  pub version_read : (rest : List ℕ) (a : ℕ) → ReadsArgument (Finds version_named) text a rest → ReadsTerm (keyword.Number number.Version) text (term.Version a) rest
  version_read rest a r = is_read (keyword.Number number.Version) (IsOne (Finds version_named)) term.Version (λ us t m. m) (λ us t m. m) text rest a (one (Finds version_named) (found_once version_named) text rest a r)

  pub version_refused : (left : ℕ) (e : Expected) → RefusesArgument (Finds version_named) text left × (e ≡ expects.Version) → RefusesTerm (keyword.Number number.Version) text left e
  version_refused left e r = is_refused (keyword.Number number.Version) (IsOne (Finds version_named)) term.Version (λ us t m. m) (λ us t m. m) (IsKeyword (keyword.Number number.Version)) (λ w i. i) text left e (not_one (Finds version_named) (found_once version_named) (codes "4", 4, refl) (IsKeyword (keyword.Number number.Version)) expects.Version (λ w i. ([], w, refl, i)) text left e r)

  pub header_read : (rest : List ℕ) (a : ℕ) → ReadsArgument (Finds header_named) text a rest → ReadsTerm (keyword.Number number.Header) text (term.Header a) rest
  header_read rest a r = is_read (keyword.Number number.Header) (IsOne (Finds header_named)) term.Header (λ us t m. m) (λ us t m. m) text rest a (one (Finds header_named) (found_once header_named) text rest a r)

  pub header_refused : (left : ℕ) (e : Expected) → RefusesArgument (Finds header_named) text left × (e ≡ expects.Header) → RefusesTerm (keyword.Number number.Header) text left e
  header_refused left e r = is_refused (keyword.Number number.Header) (IsOne (Finds header_named)) term.Header (λ us t m. m) (λ us t m. m) (IsKeyword (keyword.Number number.Header)) (λ w i. i) text left e (not_one (Finds header_named) (found_once header_named) (codes "0", 0, refl) (IsKeyword (keyword.Number number.Header)) expects.Header (λ w i. ([], w, refl, i)) text left e r)

  pub leads_to_read : (rest : List ℕ) (a : ℕ) → ReadsArgument (Finds protocol_of) text a rest → ReadsTerm (keyword.Number number.LeadsTo) text (term.LeadsTo a) rest
  leads_to_read rest a r = is_read (keyword.Number number.LeadsTo) (IsOne (Finds protocol_of)) term.LeadsTo (λ us t m. m) (λ us t m. m) text rest a (one (Finds protocol_of) (found_once protocol_of) text rest a r)

  pub leads_to_refused : (left : ℕ) (e : Expected) → RefusesArgument (Finds protocol_of) text left × (e ≡ expects.Protocol) → RefusesTerm (keyword.Number number.LeadsTo) text left e
  leads_to_refused left e r = is_refused (keyword.Number number.LeadsTo) (IsOne (Finds protocol_of)) term.LeadsTo (λ us t m. m) (λ us t m. m) (IsKeyword (keyword.Number number.LeadsTo)) (λ w i. i) text left e (not_one (Finds protocol_of) (found_once protocol_of) (codes "0", 0, refl) (IsKeyword (keyword.Number number.LeadsTo)) expects.Protocol (λ w i. ([], w, refl, inl i)) text left e r)

  pub spi_read : (rest : List ℕ) (a : ℕ) → ReadsArgument (Finds (number_up_to 4294967295)) text a rest → ReadsTerm (keyword.Number number.SecurityParameters) text (term.SecurityParameters a) rest
  spi_read rest a r = is_read (keyword.Number number.SecurityParameters) (IsOne (Finds (number_up_to 4294967295))) term.SecurityParameters (λ us t m. m) (λ us t m. m) text rest a (one (Finds (number_up_to 4294967295)) (found_once (number_up_to 4294967295)) text rest a r)

  pub spi_refused : (left : ℕ) (e : Expected) → RefusesArgument (Finds (number_up_to 4294967295)) text left × (e ≡ expects.Number) → RefusesTerm (keyword.Number number.SecurityParameters) text left e
  spi_refused left e r = is_refused (keyword.Number number.SecurityParameters) (IsOne (Finds (number_up_to 4294967295))) term.SecurityParameters (λ us t m. m) (λ us t m. m) IsNumberKeyword (λ w i. inl i) text left e (not_one (Finds (number_up_to 4294967295)) (found_once (number_up_to 4294967295)) (codes "0", 0, refl) IsNumberKeyword expects.Number (λ w i. ([], w, refl, i)) text left e r)

  pub id_read : (rest : List ℕ) (a : ℕ) → ReadsArgument (Finds (number_up_to 4294967295)) text a rest → ReadsTerm (keyword.Number number.Identification) text (term.Identification a) rest
  id_read rest a r = is_read (keyword.Number number.Identification) (IsOne (Finds (number_up_to 4294967295))) term.Identification (λ us t m. m) (λ us t m. m) text rest a (one (Finds (number_up_to 4294967295)) (found_once (number_up_to 4294967295)) text rest a r)

  pub id_refused : (left : ℕ) (e : Expected) → RefusesArgument (Finds (number_up_to 4294967295)) text left × (e ≡ expects.Number) → RefusesTerm (keyword.Number number.Identification) text left e
  id_refused left e r = is_refused (keyword.Number number.Identification) (IsOne (Finds (number_up_to 4294967295))) term.Identification (λ us t m. m) (λ us t m. m) IsNumberKeyword (λ w i. inr (inl i)) text left e (not_one (Finds (number_up_to 4294967295)) (found_once (number_up_to 4294967295)) (codes "0", 0, refl) IsNumberKeyword expects.Number (λ w i. ([], w, refl, i)) text left e r)

  pub less_read : (rest : List ℕ) (a : ℕ) → ReadsArgument (Finds (number_up_to 4294967295)) text a rest → ReadsTerm (keyword.Number number.Less) text (term.WireLength by.AtMost a) rest
  less_read rest a r = is_read (keyword.Number number.Less) (IsOne (Finds (number_up_to 4294967295))) (term.WireLength by.AtMost) (λ us t m. m) (λ us t m. m) text rest a (one (Finds (number_up_to 4294967295)) (found_once (number_up_to 4294967295)) text rest a r)

  pub less_refused : (left : ℕ) (e : Expected) → RefusesArgument (Finds (number_up_to 4294967295)) text left × (e ≡ expects.Number) → RefusesTerm (keyword.Number number.Less) text left e
  less_refused left e r = is_refused (keyword.Number number.Less) (IsOne (Finds (number_up_to 4294967295))) (term.WireLength by.AtMost) (λ us t m. m) (λ us t m. m) IsNumberKeyword (λ w i. inr (inr (inl i))) text left e (not_one (Finds (number_up_to 4294967295)) (found_once (number_up_to 4294967295)) (codes "0", 0, refl) IsNumberKeyword expects.Number (λ w i. ([], w, refl, i)) text left e r)

  pub greater_read : (rest : List ℕ) (a : ℕ) → ReadsArgument (Finds (number_up_to 4294967295)) text a rest → ReadsTerm (keyword.Number number.Greater) text (term.WireLength by.AtLeast a) rest
  greater_read rest a r = is_read (keyword.Number number.Greater) (IsOne (Finds (number_up_to 4294967295))) (term.WireLength by.AtLeast) (λ us t m. m) (λ us t m. m) text rest a (one (Finds (number_up_to 4294967295)) (found_once (number_up_to 4294967295)) text rest a r)

  pub greater_refused : (left : ℕ) (e : Expected) → RefusesArgument (Finds (number_up_to 4294967295)) text left × (e ≡ expects.Number) → RefusesTerm (keyword.Number number.Greater) text left e
  greater_refused left e r = is_refused (keyword.Number number.Greater) (IsOne (Finds (number_up_to 4294967295))) (term.WireLength by.AtLeast) (λ us t m. m) (λ us t m. m) IsNumberKeyword (λ w i. inr (inr (inr i))) text left e (not_one (Finds (number_up_to 4294967295)) (found_once (number_up_to 4294967295)) (codes "0", 0, refl) IsNumberKeyword expects.Number (λ w i. ([], w, refl, i)) text left e r)

  pub routing_type_read : (rest : List ℕ) (a : ℕ) → ReadsArgument (Finds (number_up_to 255)) text a rest → ReadsTerm (keyword.Number number.RoutingType) text (term.RoutingType a) rest
  routing_type_read rest a r = is_read (keyword.Number number.RoutingType) (IsOne (Finds (number_up_to 255))) term.RoutingType (λ us t m. m) (λ us t m. m) text rest a (one (Finds (number_up_to 255)) (found_once (number_up_to 255)) text rest a r)

  pub routing_type_refused : (left : ℕ) (e : Expected) → RefusesArgument (Finds (number_up_to 255)) text left × (e ≡ expects.Byte) → RefusesTerm (keyword.Number number.RoutingType) text left e
  routing_type_refused left e r = is_refused (keyword.Number number.RoutingType) (IsOne (Finds (number_up_to 255))) term.RoutingType (λ us t m. m) (λ us t m. m) IsByteKeyword (λ w i. inl i) text left e (not_one (Finds (number_up_to 255)) (found_once (number_up_to 255)) (codes "0", 0, refl) IsByteKeyword expects.Byte (λ w i. ([], w, refl, i)) text left e r)

  pub option_read : (rest : List ℕ) (a : ℕ) → ReadsArgument (Finds (number_up_to 255)) text a rest → ReadsTerm (keyword.Number number.Option) text (term.Option a) rest
  option_read rest a r = is_read (keyword.Number number.Option) (IsOne (Finds (number_up_to 255))) term.Option (λ us t m. m) (λ us t m. m) text rest a (one (Finds (number_up_to 255)) (found_once (number_up_to 255)) text rest a r)

  pub option_refused : (left : ℕ) (e : Expected) → RefusesArgument (Finds (number_up_to 255)) text left × (e ≡ expects.Byte) → RefusesTerm (keyword.Number number.Option) text left e
  option_refused left e r = is_refused (keyword.Number number.Option) (IsOne (Finds (number_up_to 255))) term.Option (λ us t m. m) (λ us t m. m) IsByteKeyword (λ w i. inr (inl i)) text left e (not_one (Finds (number_up_to 255)) (found_once (number_up_to 255)) (codes "0", 0, refl) IsByteKeyword expects.Byte (λ w i. ([], w, refl, i)) text left e r)

  pub icmp_type_read : (rest : List ℕ) (a : ℕ) → ReadsArgument (Finds icmp_type_of) text a rest → ReadsTerm (keyword.Number number.IcmpType) text (term.IcmpType a) rest
  icmp_type_read rest a r = is_read (keyword.Number number.IcmpType) (IsOne (Finds icmp_type_of)) term.IcmpType (λ us t m. m) (λ us t m. m) text rest a (one (Finds icmp_type_of) (found_once icmp_type_of) text rest a r)

  pub icmp_type_refused : (left : ℕ) (e : Expected) → RefusesArgument (Finds icmp_type_of) text left × (e ≡ expects.IcmpType) → RefusesTerm (keyword.Number number.IcmpType) text left e
  icmp_type_refused left e r = is_refused (keyword.Number number.IcmpType) (IsOne (Finds icmp_type_of)) term.IcmpType (λ us t m. m) (λ us t m. m) (IsKeyword (keyword.Number number.IcmpType)) (λ w i. i) text left e (not_one (Finds icmp_type_of) (found_once icmp_type_of) (codes "0", 0, refl) (IsKeyword (keyword.Number number.IcmpType)) expects.IcmpType (λ w i. ([], w, refl, i)) text left e r)

  pub icmp_code_read : (rest : List ℕ) (a : ℕ) → ReadsArgument (Finds (number_up_to 255)) text a rest → ReadsTerm (keyword.Number number.IcmpCode) text (term.IcmpCode a) rest
  icmp_code_read rest a r = is_read (keyword.Number number.IcmpCode) (IsOne (Finds (number_up_to 255))) term.IcmpCode (λ us t m. m) (λ us t m. m) text rest a (one (Finds (number_up_to 255)) (found_once (number_up_to 255)) text rest a r)

  pub icmp_code_refused : (left : ℕ) (e : Expected) → RefusesArgument (Finds (number_up_to 255)) text left × (e ≡ expects.Byte) → RefusesTerm (keyword.Number number.IcmpCode) text left e
  icmp_code_refused left e r = is_refused (keyword.Number number.IcmpCode) (IsOne (Finds (number_up_to 255))) term.IcmpCode (λ us t m. m) (λ us t m. m) IsByteKeyword (λ w i. inr (inr (inl i))) text left e (not_one (Finds (number_up_to 255)) (found_once (number_up_to 255)) (codes "0", 0, refl) IsByteKeyword expects.Byte (λ w i. ([], w, refl, i)) text left e r)

  pub icmp6_type_read : (rest : List ℕ) (a : ℕ) → ReadsArgument (Finds icmp6_type_of) text a rest → ReadsTerm (keyword.Number number.Icmp6Type) text (term.Icmp6Type a) rest
  icmp6_type_read rest a r = is_read (keyword.Number number.Icmp6Type) (IsOne (Finds icmp6_type_of)) term.Icmp6Type (λ us t m. m) (λ us t m. m) text rest a (one (Finds icmp6_type_of) (found_once icmp6_type_of) text rest a r)

  pub icmp6_type_refused : (left : ℕ) (e : Expected) → RefusesArgument (Finds icmp6_type_of) text left × (e ≡ expects.Icmp6Type) → RefusesTerm (keyword.Number number.Icmp6Type) text left e
  icmp6_type_refused left e r = is_refused (keyword.Number number.Icmp6Type) (IsOne (Finds icmp6_type_of)) term.Icmp6Type (λ us t m. m) (λ us t m. m) (IsKeyword (keyword.Number number.Icmp6Type)) (λ w i. i) text left e (not_one (Finds icmp6_type_of) (found_once icmp6_type_of) (codes "0", 0, refl) (IsKeyword (keyword.Number number.Icmp6Type)) expects.Icmp6Type (λ w i. ([], w, refl, i)) text left e r)

  pub icmp6_code_read : (rest : List ℕ) (a : ℕ) → ReadsArgument (Finds (number_up_to 255)) text a rest → ReadsTerm (keyword.Number number.Icmp6Code) text (term.Icmp6Code a) rest
  icmp6_code_read rest a r = is_read (keyword.Number number.Icmp6Code) (IsOne (Finds (number_up_to 255))) term.Icmp6Code (λ us t m. m) (λ us t m. m) text rest a (one (Finds (number_up_to 255)) (found_once (number_up_to 255)) text rest a r)

  pub icmp6_code_refused : (left : ℕ) (e : Expected) → RefusesArgument (Finds (number_up_to 255)) text left × (e ≡ expects.Byte) → RefusesTerm (keyword.Number number.Icmp6Code) text left e
  icmp6_code_refused left e r = is_refused (keyword.Number number.Icmp6Code) (IsOne (Finds (number_up_to 255))) term.Icmp6Code (λ us t m. m) (λ us t m. m) IsByteKeyword (λ w i. inr (inr (inr i))) text left e (not_one (Finds (number_up_to 255)) (found_once (number_up_to 255)) (codes "0", 0, refl) IsByteKeyword expects.Byte (λ w i. ([], w, refl, i)) text left e r)

  pub tcp_flags_read : (rest : List ℕ) (a : TcpFlags) → ReadsArgument (Finds tcp_flags_of) text a rest → ReadsTerm (keyword.Number number.TcpFlags) text (term.TcpFlags a) rest
  tcp_flags_read rest a r = is_read (keyword.Number number.TcpFlags) (IsOne (Finds tcp_flags_of)) term.TcpFlags (λ us t m. m) (λ us t m. m) text rest a (one (Finds tcp_flags_of) (found_once tcp_flags_of) text rest a r)

  pub tcp_flags_refused : (left : ℕ) (e : Expected) → RefusesArgument (Finds tcp_flags_of) text left × (e ≡ expects.TcpFlags) → RefusesTerm (keyword.Number number.TcpFlags) text left e
  tcp_flags_refused left e r = is_refused (keyword.Number number.TcpFlags) (IsOne (Finds tcp_flags_of)) term.TcpFlags (λ us t m. m) (λ us t m. m) (IsKeyword (keyword.Number number.TcpFlags)) (λ w i. i) text left e (not_one (Finds tcp_flags_of) (found_once tcp_flags_of) some_flags (IsKeyword (keyword.Number number.TcpFlags)) expects.TcpFlags (λ w i. ([], w, refl, i)) text left e r)

  pub compared_read : (q : Quantity) (rest : List ℕ) (c : Comparison) (n : ℕ) → ReadsArguments AreCompared text (c, n) rest → ReadsTerm (keyword.Compared q) text (term.Compared q c n) rest
  compared_read q rest c n r = is_read (keyword.Compared q) AreCompared (λ a. term.Compared q a.0 a.1) (λ us t m. m) (λ us t m. m) text rest (c, n) r

  pub compared_refused : (q : Quantity) (left : ℕ) (e : Expected) → RefusesArguments AreCompared IsCountKeyword text left e → RefusesTerm (keyword.Compared q) text left e
  compared_refused q left e r = is_refused (keyword.Compared q) AreCompared (λ a. term.Compared q a.0 a.1) (λ us t m. m) (λ us t m. m) IsCountKeyword (λ w i. inl (q, i)) text left e r

  pub segments_left_read : (rest : List ℕ) (c : Comparison) (n : ℕ) → ReadsArguments AreCompared text (c, n) rest → ReadsTerm keyword.SegmentsLeft text (term.SegmentsLeft c n) rest
  segments_left_read rest c n r = is_read keyword.SegmentsLeft AreCompared (λ a. term.SegmentsLeft a.0 a.1) (λ us t m. m) (λ us t m. m) text rest (c, n) r

  pub segments_left_refused : (left : ℕ) (e : Expected) → RefusesArguments AreCompared IsCountKeyword text left e → RefusesTerm keyword.SegmentsLeft text left e
  segments_left_refused left e r = is_refused keyword.SegmentsLeft AreCompared (λ a. term.SegmentsLeft a.0 a.1) (λ us t m. m) (λ us t m. m) IsCountKeyword (λ w i. inr i) text left e r

  pub access_read : (a : AccessedBytes) (rest : List ℕ) (x : ComparedBits) → ReadsAt compared_bits_at text x rest → ReadsTerm (keyword.Access a) text (term.Access a x) rest
  access_read a rest x r = is_read (keyword.Access a) AreComparedBits (term.Access a) (λ us t m. m) (λ us t m. m) text rest x (bits_arguments text rest x r)

  pub access_refused : (a : AccessedBytes) (left : ℕ) (e : Expected) → RefusesAt compared_bits_at (LastIs IsAccess) text left e → RefusesTerm (keyword.Access a) text left e
  access_refused a left e r = is_refused (keyword.Access a) AreComparedBits (term.Access a) (λ us t m. m) (λ us t m. m) IsAccess (λ w i. (a, i)) text left e (bits_refused text left e r)

-- by what follows the keyword
pub ruleset number_terms = (less_read, less_refused, greater_read, greater_refused, version_read, version_refused, header_read, header_refused, leads_to_read, leads_to_refused, spi_read, spi_refused, id_read, id_refused, routing_type_read, routing_type_refused, option_read, option_refused, icmp_type_read, icmp_type_refused, icmp_code_read, icmp_code_refused, icmp6_type_read, icmp6_type_refused, icmp6_code_read, icmp6_code_refused, tcp_flags_read, tcp_flags_refused)
