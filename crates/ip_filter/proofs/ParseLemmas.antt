-- A text is read word by word.
use Rattle.std.specs.Prelude.{Option}
use Rattle.ip_spec.proofs.Common.{◌≡◌, ℕ, ◌-◌, ◌<◌, ◌^◌, List, [], ◌∷◌, ◌++◌, length, take, drop, refl, sym, ap, ◌∙◌, subst, arith, append_assoc, append-nil, append_cancel_left, length-append, drop_all}
use Rattle.ip_filter.specs.declared.parse_error.Expected.{Expected}
use Rattle.ip_filter.specs.declared.builder.Builder.{Builder}
use Rattle.ip_filter.specs.declared.compile.Compiler.{Compiler}
use Rattle.ip_filter.specs.declared.filter.Filter.{Filter}
use Rattle.ip_filter.specs.declared.words.Word.{Word as FirstWord}
use Rattle.ip_filter.specs.Words.{Word, words}
use Rattle.ip_filter.specs.Program.{tests_of}
use Rattle.ip_filter.specs.Grammar.{Conjunction, Disjunction, filter_words, formula_of, IsFilter}
use Rattle.ip_filter.specs.Reading.{IsSuffix, IsPlace, IsFirstWord}
use Rattle.ip_filter.specs.Parsing.{State, before, after, nothing_open, Moves, may_follow, LeadsTo, ends, goes_on, or_joined, HasRoom, state_words, CountsFit, Holds, IsFinished, ReadsOn, RefusesFrom, IsDue, IsWhole}
use Rattle.ip_filter.specs.Parsed.{IsParsedFilter, IsFirstError, IsExpected}
use Rattle.ip_filter.proofs.PlaceLemmas.{whole, end_of_end, place_in_end, from_place}
use Rattle.ip_filter.proofs.WordLemmas.{no_words, words_short}
use Rattle.ip_filter.proofs.LeadLemmas.{start_leads, lead_filter, can_end, due_is_expected}
use Rattle.ip_filter.proofs.StateLemmas.{move_words, move_some, move_room, Good, move_good, good_whole, or_joined_words}
use Rattle.ip_filter.proofs.CountLemmas.{filter_count}
use Rattle.ip_filter.proofs.CompileLemmas.{passes_formula, passes_in_frame, few_tests}

-- The words before `rest` led to the state, which b holds. Each filter that begins with them, and goes on with the next
-- word, is led to from there.
pub record Going (text rest : List ℕ) (b : Builder) : Type 0 where
  pub state : State
  pub holds : Holds state b
  pub end : IsSuffix text rest
  pub begins : words text ≡ state_words state ++ words rest
  pub room : HasRoom state
  pub good : Good state
  pub leads : (d : Disjunction) (ws : List Word) → IsFilter d → filter_words d ≡ state_words state ++ ws → take 1 ws ≡ take 1 (words rest) → LeadsTo state ws d

pub begin : (text : List ℕ) (b : Builder) → Holds (before [] nothing_open) b → Going text text b
begin text b h = record {
  state = before [] nothing_open;
  holds = h;
  end = whole text;
  begins = refl;
  room = omega arith;
  good = ((tt, tt, tt), tt, omega arith);
  leads = λ d ws is same next. subst (λ x. LeadsTo (before [] nothing_open) x d) same (start_leads d is);
}

module _ (text rest : List ℕ) (b : Builder) (g : Going text rest b) where
  fits : length text < 2 ^ 63 → CountsFit g.state
  fits short = record {
    terms = g.room;
    words = omega (arith, short, words_short text, ap length g.begins, length-append (state_words g.state) (words rest));
  }

-- words with the same beginning have the same first one
same_first : (us vs ws : List Word) → take 1 vs ≡ take 1 ws → take 1 (us ++ vs) ≡ take 1 (us ++ ws)
same_first [] vs ws e = e
same_first (u ∷ us) vs ws e = refl

-- the words that lead on are those that were read
lead_on : (s t : State) (us ws all : List Word) (d : Disjunction) → LeadsTo s all d → all ≡ us ++ ws → ((v : Word) × (vs : List Word) × (us ≡ v ∷ vs))
    → ((r : State) (vs more : List Word) → Moves s vs r → may_follow r more → vs ++ more ≡ us ++ ws → (r ≡ t) × (vs ≡ us)) → LeadsTo t ws d
lead_on s t us ws all d (ends o c) e some only = absurd (cc (e ∙ ap (λ x. x ++ ws) some.2))
lead_on s t us ws all d (goes_on s2 r vs more all2 d2 same m may l) e some only =
    let found = only r vs more m may (sym same ∙ e) in
    let rest : more ≡ ws = append_cancel_left us more ws (ap (λ x. x ++ more) (sym found.1) ∙ sym same ∙ e) in
    subst (λ x. LeadsTo x ws d2) found.0 (subst (λ x. LeadsTo r x d2) rest l)

module _ (text rest : List ℕ) (b new : Builder) (w : FirstWord) (after_word : List ℕ) (g : Going text rest b) (short : length text < 2 ^ 63) (is : IsFirstWord rest w)
    (read : (t : List ℕ) (s : State) → IsFirstWord t w → Holds s b → CountsFit s → ReadsOn s t after_word new) where
  r : ReadsOn g.state rest after_word new
  r = read rest g.state is g.holds (fits text rest b g short)

  pub go_on : Going text after_word new
  go_on =
      let read = move_words g.state r.next r.us r.moves in
      let split : (ws : List Word) → state_words r.next ++ ws ≡ state_words g.state ++ (r.us ++ ws) = λ ws. ap (λ x. x ++ ws) read ∙ append_assoc (state_words g.state) r.us ws in
      record {
        state = r.next;
        holds = r.holds;
        end = end_of_end text rest g.end after_word r.end;
        begins = g.begins ∙ ap (λ ws. state_words g.state ++ ws) r.begins ∙ sym (split (words after_word));
        room = move_room g.state r.next r.us r.moves g.room;
        good = move_good g.state r.next r.us r.moves g.good;
        leads = λ d ws is same next.
            let first : take 1 (r.us ++ ws) ≡ take 1 (words rest) = same_first r.us ws (words after_word) next ∙ ap (take 1) (sym r.begins) in
            lead_on g.state r.next r.us ws (r.us ++ ws) d (g.leads d (r.us ++ ws) is (same ∙ split ws) first) refl (move_some g.state r.next r.us r.moves)
            (λ t vs more m may e. r.only t vs ws more m may e next);
      }

  pub fewer_words : length (words after_word) < length (words rest)
  fewer_words =
      let some = move_some g.state r.next r.us r.moves in
      omega (arith, ap length r.begins, length-append r.us (words after_word), ap length some.2)

-- ---- what leads nowhere

nowhere : (s : State) (front ws all : List Word) (d : Disjunction) → LeadsTo s all d → all ≡ front ++ ws → ((v : Word) × (vs : List Word) × (front ++ ws ≡ v ∷ vs))
    → ((t : State) (vs more : List Word) → Moves s vs t → may_follow t more → vs ++ more ≡ front ++ ws → ⊥) → ⊥
nowhere s front ws all d (ends o c) e some none = cc (e ∙ some.2)
nowhere s front ws all d (goes_on s2 t vs more all2 d2 same m may l) e some none = none t vs more m may (sym same ∙ e)

head_of : (xs ys : List Word) (v : Word) (vs : List Word) → take 1 xs ≡ take 1 ys → ys ≡ v ∷ vs → (w : Word) × (ws : List Word) × (xs ≡ w ∷ ws)
head_of [] ys v vs e is = absurd (cc (e ∙ ap (take 1) is))
head_of (x ∷ xs) ys v vs e is = (x, xs, refl)

pub first_error : (text rest : List ℕ) (b : Builder) (w : FirstWord) (left : ℕ) (e : Expected) (g : Going text rest b) → IsFirstWord rest w → ((t : List ℕ) (s : State) → IsFirstWord t w → Holds s b → RefusesFrom s t left e)
    → IsFirstError text (length text - left) e
first_error text rest b w left e g is refuse =
    let r = refuse rest g.state is g.holds in
    let within = r.place.within in
    let shorter = g.end.0 in
    let here : IsPlace text (state_words g.state ++ r.front) left = place_in_end text rest g.end (state_words g.state) r.front left g.begins r.place in
    let back : left ≡ length text - (length text - left) = omega (arith, within, shorter) in
    let at = from_place text rest g.end left within in
    record {
      within = omega arith;
      front = state_words g.state ++ r.front;
      place = subst (IsPlace text (state_words g.state ++ r.front)) back here;
      begins =
          let more = r.begins g.room in
          let whole = lead_filter g.state (r.front ++ more.1) more.0 more.2 g.good g.room in
          (more.0, more.1, whole.0, whole.1 ∙ sym (append_assoc (state_words g.state) r.front more.1));
      none = λ d ws filter same next.
          let all : take 1 (r.front ++ ws) ≡ take 1 (words rest) = same_first r.front ws (words (drop (length rest - left) rest)) (next ∙ ap (λ s. take 1 (words s)) (sym at)) ∙ ap (take 1) (sym r.place.words_before) in
          nowhere g.state r.front ws (r.front ++ ws) d (g.leads d (r.front ++ ws) filter (same ∙ append_assoc (state_words g.state) r.front ws) all) refl
          (head_of (r.front ++ ws) (words rest) w.bytes.now (words w.rest.now) all is.begins)
          (λ t vs more m may all. r.none t vs ws more m may all (next ∙ ap (λ s. take 1 (words s)) (sym at)));
      expected = subst (λ s. IsExpected (state_words g.state ++ r.front) (take 1 (words s)) e) at (due_is_expected g.state g.good g.room r.front _ e r.expected);
    }

-- ---- the end of the text

only_end : (s : State) (ws : List Word) (d : Disjunction) → LeadsTo s ws d → ws ≡ [] → (o : Option (Disjunction × Word)) × (c : Conjunction) × (s ≡ after [] o c) × (d ≡ or_joined o c)
only_end s ws d (ends o c) e = (o, c, refl, refl)
only_end s ws d (goes_on s2 t us more all d2 same m may l) e = let some = move_some s2 t us m in absurd (cc (sym e ∙ same ∙ ap (λ x. x ++ more) some.2))

same_end : (o p : Option (Disjunction × Word)) (c e : Conjunction) → after [] o c ≡ after [] p e → or_joined o c ≡ or_joined p e
same_end o p c e same =
    let left : o ≡ p = cc same in let right : c ≡ e = cc same in ap (λ x. or_joined x c) left ∙ ap (or_joined p) right

no_first : (ws : List Word) → take 1 ws ≡ [] → ws ≡ []
no_first [] e = refl
no_first (w ∷ ws) e = cc

pub parsed : (text rest : List ℕ) (b : Builder) (compiler : Compiler) (filter : Filter) (g : Going text rest b) → length text < 2 ^ 63 → words rest ≡ [] → ((s : State) → Holds s b → CountsFit s → IsFinished s compiler)
    → tests_of filter ≡ tests_of compiler.filter → filter.count ≡ length (tests_of compiler.filter) → IsParsedFilter text filter
parsed text rest b compiler filter g short none finish tests count =
    let f = finish g.state g.holds (fits text rest b g short) in
    let d = or_joined f.or_left f.last in
    let is : IsFilter d = good_whole f.or_left f.last (subst Good f.whole g.good) (subst HasRoom f.whole g.room) in
    let all : state_words g.state ≡ words text = sym (g.begins ∙ ap (λ ws. state_words g.state ++ ws) none ∙ append-nil (state_words g.state)) in
    record {
      written = d;
      filter = is;
      words_of = or_joined_words f.or_left f.last ∙ sym (ap state_words f.whole) ∙ all;
      only = λ e other same.
          let led = only_end g.state [] e (g.leads e [] other (same ∙ sym all ∙ sym (append-nil (state_words g.state))) (ap (take 1) (sym none))) refl in
          led.3 ∙ same_end led.0 f.or_left led.1 f.last (sym led.2 ∙ f.whole);
      formula = passes_formula (formula_of d) compiler filter tests f.compiled;
      framed = passes_in_frame (formula_of d) compiler filter tests f.compiled;
      tests = omega (arith, filter_count d, few_tests (formula_of d) compiler filter tests f.compiled count);
    }

pub missing_end : (text rest : List ℕ) (b : Builder) (e : Expected) (g : Going text rest b) → words rest ≡ []
    → ((s : State) → Holds s b → IsDue s [] [] e × (IsWhole s → ⊥)) → IsFirstError text (length text) e
missing_end text rest b e g none due =
    let here = due g.state g.holds in
    let nothing_left : words (drop (length text) text) ≡ [] = no_words (drop (length text) text) (ap length (drop_all (length text) text (omega arith))) in
    let all : words text ≡ state_words g.state ++ [] = g.begins ∙ ap (λ ws. state_words g.state ++ ws) none in
    record {
      within = omega arith;
      front = state_words g.state;
      place = record {
        within = omega arith;
        words_before = all ∙ ap (λ ws. state_words g.state ++ ws)
            (sym (no_words (drop (length text - (length text - length text)) text) (ap length (drop_all (length text - (length text - length text)) text (omega arith)))));
        begins = λ some. absurd (omega (arith, some));
      };
      begins = let more = can_end g.state g.room in let whole = lead_filter g.state more.1 more.0 more.2 g.good g.room in (more.0, more.1, whole.0, whole.1);
      none = λ d ws is same next.
          let led = g.leads d ws is same (next ∙ ap (take 1) nothing_left ∙ ap (take 1) (sym none)) in
          let empty : ws ≡ [] = no_first ws (next ∙ ap (take 1) nothing_left) in
          let end = only_end g.state ws d led empty in
          here.1 (subst IsWhole (sym end.2) tt);
      expected =
          subst (λ ws. IsExpected ws (take 1 (words (drop (length text) text))) e) (append-nil (state_words g.state))
          (due_is_expected g.state g.good g.room [] _ e (subst (λ ws. IsDue g.state [] ws e) (sym (ap (take 1) nothing_left)) here.0));
    }
