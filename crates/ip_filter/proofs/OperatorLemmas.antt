-- What an operator or the end of a group leads to.
use Rattle.std.proofs.Common.{Some, None, is_some, codes}
use Rattle.std.specs.Prelude.{Option}
use Rattle.std.specs.Str.{bytes_eq}
use Rattle.arrayvec.specs.declared.array_vec.ArrayVec.{ArrayVec}
use Rattle.ip_spec.proofs.Common.{◌≡◌, ℕ, ◌+◌, ◌-◌, ◌<◌, ◌≤◌, List, [], ◌∷◌, ◌++◌, length, take, drop, refl, sym, ap, ◌∙◌, arith, Bool, true, false, ◌||◌, ◌⊎◌, inl, inr, false≢true, length-append}
use Rattle.std.proofs.lemmas.List.{same_from_push}
use Rattle.ip_filter.specs.declared.words.Word.{Word as FirstWord}
use Rattle.ip_filter.specs.declared.parse_error.Expected.{Expected}
use Rattle.ip_filter.specs.declared.parse_error.Expected.TheVariants as expects
use Rattle.ip_filter.specs.declared.builder.Builder.{Builder}
use Rattle.ip_filter.specs.declared.builder.Level.{Level}
use Rattle.ip_filter.specs.declared.compile.Compiler.{Compiler}
use Rattle.ip_filter.specs.Words.{Word, words}
use Rattle.ip_filter.specs.Formula.{Formula, either, terms_of}
use Rattle.ip_filter.specs.Compiled.{terms_of_all, HasCompiled}
use Rattle.ip_filter.specs.Operators.{is_and, is_or}
use Rattle.ip_filter.specs.Grammar.{Operand, Conjunction, Disjunction, a_group, conjunction_formula, formula_of, conjunction_leaves, leaves_of}
use Rattle.ip_filter.specs.Reading.{IsFirstWord, IsOperator}
use Rattle.ip_filter.specs.Parsing.{Open, State, before, after, Moves, by_and, by_or, by_close, with_operand, or_joined, or_formulas, group_formulas, state_terms, level_of, levels_of, CountsFit, Holds, HoldsOperand, HoldsGroup, IsFinished, ReadsOn, RefusesFrom, IsWhole, EndsGroup, IsDue}
use Rattle.ip_filter.proofs.CountLemmas.{filter_count, group_count}
use Rattle.ip_filter.proofs.OperandLemmas.{joined_terms}
use Rattle.ip_filter.proofs.MoveLemmas.{at_word, next_word, level_count}
use Rattle.ip_filter.proofs.LeadLemmas.{can_end}
use Rattle.ip_filter.proofs.StateLemmas.{or_joined_terms}
use Rattle.ip_filter.proofs.WordLemmas.{or_cases, either_word, same_word}

-- an `and` is no `or`
module _ (w : Word) where
  and_no_or : is_and w ≡ true → is_or w ≡ false
  and_no_or a = either_word (λ x. is_or x ≡ false) w (codes "and") (codes "&&") a refl refl

  or_no_and : is_or w ≡ true → is_and w ≡ false
  or_no_and o = either_word (λ x. is_and x ≡ false) w (codes "or") (codes "||") o refl refl

joined_leaves : (o : Option (Disjunction × Word)) (c : Conjunction) → leaves_of (or_joined o c) ≡ conjunction_leaves c
joined_leaves None c = refl
joined_leaves (Some p) c = refl

-- ---- what the words lead to

only_and : (w : Word) (fs : List Open) (o : Option (Disjunction × Word)) (c : Conjunction) (t : State) (vs ws more : List Word) → is_and w ≡ true → Moves (after fs o c) vs t
    → vs ++ more ≡ w ∷ ws → (t ≡ before fs (record { or_left = o; and_left = Some (c, w); nots = [] })) × (vs ≡ w ∷ [])
only_and w fs o c t vs ws more a (by_and gs p d v is few) e = (cc e, cc e)
only_and w fs o c t vs ws more a (by_or gs p d v is few) e = absurd (cc (and_no_or w a))
only_and w fs o c t vs ws more a (by_close gs g p d) e = let same : w ≡ codes ")" = cc e in absurd (cc (ap is_and same))

only_or : (w : Word) (fs : List Open) (o : Option (Disjunction × Word)) (c : Conjunction) (t : State) (vs ws more : List Word) → is_or w ≡ true → Moves (after fs o c) vs t
    → vs ++ more ≡ w ∷ ws → (t ≡ before fs (record { or_left = Some (or_joined o c, w); and_left = None; nots = [] })) × (vs ≡ w ∷ [])
only_or w fs o c t vs ws more a (by_and gs p d v is few) e = absurd (cc (or_no_and w a))
only_or w fs o c t vs ws more a (by_or gs p d v is few) e = (cc e, cc e)
only_or w fs o c t vs ws more a (by_close gs g p d) e = let same : w ≡ codes ")" = cc e in absurd (cc (ap is_or same))

only_close : (w : Word) (fs : List Open) (f : Open) (o : Option (Disjunction × Word)) (c : Conjunction) (t : State) (vs ws more : List Word) → w ≡ codes ")"
    → Moves (after (f ∷ fs) o c) vs t → vs ++ more ≡ w ∷ ws → (t ≡ with_operand fs f (a_group (or_joined o c))) × (vs ≡ codes ")" ∷ [])
only_close w fs f o c t vs ws more a (by_and gs p d v is few) e = absurd (cc (ap is_and a))
only_close w fs f o c t vs ws more a (by_or gs p d v is few) e = absurd (cc (ap is_or a))
only_close w fs f o c t vs ws more a (by_close gs g p d) e = (refl, refl)

-- no other word leads on
nowhere : (w : Word) (fs : List Open) (o : Option (Disjunction × Word)) (c : Conjunction) (t : State) (vs ws more : List Word) → is_and w ≡ false → is_or w ≡ false
    → (bytes_eq w (codes ")") ≡ false) ⊎ (length fs ≡ 0) → Moves (after fs o c) vs t → vs ++ more ≡ w ∷ ws → ⊥
nowhere w fs o c t vs ws more a r n (by_and gs p d v is few) e = cc e
nowhere w fs o c t vs ws more a r n (by_or gs p d v is few) e = cc e
nowhere w fs o c t vs ws more a r n (by_close gs g p d) e =
    let same : w ≡ codes ")" = cc e in
    elim n [ inl f ↦ cc (ap (λ x. bytes_eq x (codes ")")) same) | inr none ↦ absurd (omega (arith, none)) ]

-- no operator leads on after 64 terms
joins_nothing : (w : Word) (fs : List Open) (o : Option (Disjunction × Word)) (c : Conjunction) (t : State) (vs ws more : List Word) → is_and w || is_or w ≡ true
    → 64 ≤ state_terms (after fs o c) → Moves (after fs o c) vs t → vs ++ more ≡ w ∷ ws → ⊥
joins_nothing w fs o c t vs ws more a full (by_close gs g p d) e = let same : w ≡ codes ")" = cc e in cc (ap (λ x. is_and x || is_or x) same)
joins_nothing w fs o c t vs ws more a full (by_and gs p d v is few) e = omega (arith, full, few)
joins_nothing w fs o c t vs ws more a full (by_or gs p d v is few) e = omega (arith, full, few)

-- ---- the formula of a whole text or group

-- a conjunction joined to the disjunction that waits, if any
abbrev pub JoinsOr : Bool → Compiler → Compiler → Type 0
JoinsOr waits old new = (o : Option (Disjunction × Word)) (c : Conjunction) (fs : List Formula) → waits ≡ is_some o → terms_of_all (formula_of (or_joined o c) ∷ fs) ≤ 64
    → HasCompiled (conjunction_formula c ∷ or_formulas o fs) old → HasCompiled (formula_of (or_joined o c) ∷ fs) new

pub or_joins : (waits : Bool) (old new : Compiler) → waits ≡ true
    → ((f g : Formula) (fs : List Formula) → terms_of g + (terms_of f + terms_of_all fs) ≤ 64 → HasCompiled (g ∷ f ∷ fs) old → HasCompiled (either f g ∷ fs) new)
    → JoinsOr waits old new
or_joins waits old new is join None c fs same few h = absurd (false≢true (sym same ∙ is))
or_joins waits old new is join (Some p) c fs same few h = join (formula_of p.0) (conjunction_formula c) fs (omega (arith, few)) h

pub no_or_joins : (waits : Bool) (old : Compiler) → waits ≡ false → JoinsOr waits old old
no_or_joins waits old is None c fs same few h = h
no_or_joins waits old is (Some p) c fs same few h = absurd (false≢true (sym is ∙ same))

few_joined : (fs : List Open) (o : Option (Disjunction × Word)) (c : Conjunction) → CountsFit (after fs o c) → terms_of_all (formula_of (or_joined o c) ∷ group_formulas fs) ≤ 64
few_joined fs o c fits = let few = fits.terms in omega (arith, few, or_joined_terms o c, filter_count (or_joined o c), group_count fs)

-- ---- whether the text or a group may end

outermost : (fs : List Open) (o : Option (Disjunction × Word)) (c : Conjunction) → length fs ≡ 0 → IsWhole (after fs o c)
outermost [] o c none = tt
outermost (f ∷ fs) o c none = absurd (omega (arith, none))

in_group : (fs : List Open) (o : Option (Disjunction × Word)) (c : Conjunction) → 0 < length fs → EndsGroup (after fs o c)
in_group [] o c some = absurd (omega (arith, some))
in_group (f ∷ fs) o c some = tt

may_stop : (fs : List Open) (o : Option (Disjunction × Word)) (c : Conjunction) → IsWhole (after fs o c) ⊎ EndsGroup (after fs o c)
may_stop [] o c = inl tt
may_stop (f ∷ fs) o c = inr tt

-- ---- the parser's steps

module _ (b : Builder) (w : FirstWord) where
  pub and_read : is_and w.bytes.now ≡ true → b.terms < 64 → (text : List ℕ) (fs : List Open) (o : Option (Disjunction × Word)) (c : Conjunction) → IsFirstWord text w
      → Holds (after fs o c) b → CountsFit (after fs o c)
      → ReadsOn (after fs o c) text w.rest.now (record { compiler = b.compiler; terms = b.terms; outer = b.outer; level = record { nots = b.level.nots; or_waits = b.level.or_waits; and_waits = true }; has_operand = false; leaves = b.leaves })
  and_read a few text fs o c is h fits =
      let word = w.bytes.now in
      let terms = h.terms in
      record {
        next = before fs (record { or_left = o; and_left = Some (c, word); nots = [] });
        us = word ∷ [];
        moves = by_and fs o c word a (omega (arith, few, terms));
        begins = is.begins;
        end = is.end;
        holds = record {
          compiled = h.compiled;
          terms = omega (arith, terms);
          outer = h.outer;
          level = ap (λ l. record { nots = l.nots; or_waits = l.or_waits; and_waits = true }) h.level;
          operand = refl;
          leaves = h.leaves;
        };
        only = λ t vs ws more m may e next. only_and word fs o c t vs ws more a m e;
      }

  pub or_read : (compiler : Compiler) → is_or w.bytes.now ≡ true → b.terms < 64 → JoinsOr b.level.or_waits b.compiler compiler
      → (text : List ℕ) (fs : List Open) (o : Option (Disjunction × Word)) (c : Conjunction) → IsFirstWord text w
      → Holds (after fs o c) b → CountsFit (after fs o c)
      → ReadsOn (after fs o c) text w.rest.now (record { compiler = compiler; terms = b.terms; outer = b.outer; level = record { nots = b.level.nots; or_waits = true; and_waits = b.level.and_waits }; has_operand = false; leaves = b.leaves })
  or_read compiler a few join text fs o c is h fits =
      let word = w.bytes.now in
      let terms = h.terms in
      let waits : b.level.or_waits ≡ is_some o = ap (λ l. l.or_waits) h.level in
      let all = or_joined_terms o c in
      record {
        next = before fs (record { or_left = Some (or_joined o c, word); and_left = None; nots = [] });
        us = word ∷ [];
        moves = by_or fs o c word a (omega (arith, few, terms));
        begins = is.begins;
        end = is.end;
        holds = record {
          compiled = join o c (group_formulas fs) waits (few_joined fs o c fits) h.compiled;
          terms = omega (arith, terms, all);
          outer = h.outer;
          level = ap (λ l. record { nots = l.nots; or_waits = true; and_waits = l.and_waits }) h.level;
          operand = refl;
          leaves = h.leaves ∙ sym (joined_leaves o c);
        };
        only = λ t vs ws more m may e next. only_or word fs o c t vs ws more a m e;
      }

  pub no_more_terms : is_and w.bytes.now || is_or w.bytes.now ≡ true → 64 ≤ b.terms → (text : List ℕ) (fs : List Open) (o : Option (Disjunction × Word)) (c : Conjunction)
      → IsFirstWord text w → Holds (after fs o c) b → RefusesFrom (after fs o c) text w.left expects.FewerTerms
  no_more_terms a full text fs o c is h =
      let terms = h.terms in
      record {
        front = [];
        place = is.place;
        begins = can_end (after fs o c);
        none = λ t vs ws more m may e next. let here = at_word text w is ws vs more next e in joins_nothing w.bytes.now fs o c t vs here.0 more a (omega (arith, full, terms)) m here.1;
        expected = inl (may_stop fs o c, refl, (w.bytes.now, next_word text w is, a));
      }

  module _ (a : is_and w.bytes.now ≡ false) (r : is_or w.bytes.now ≡ false) where
    no_operator_next : (text : List ℕ) → IsFirstWord text w → ¬ (IsOperator (take 1 (words (drop (length text - w.left) text))))
    no_operator_next text is op =
        let same : op.0 ≡ w.bytes.now = cc (sym op.1 ∙ next_word text w is) in
        elim (or_cases (is_and op.0) (is_or op.0) op.2) [ inl x ↦ cc (ap is_and same) | inr x ↦ cc (ap is_or same) ]

    module _ (e : Expected) (none : (fs : List Open) → length fs ≡ length b.outer.items → (bytes_eq w.bytes.now (codes ")") ≡ false) ⊎ (length fs ≡ 0))
        (due : (fs : List Open) (o : Option (Disjunction × Word)) (c : Conjunction) (next : List Word) → length fs ≡ length b.outer.items → ¬ (IsOperator next) → IsDue (after fs o c) [] next e) where
      refused : (text : List ℕ) (fs : List Open) (o : Option (Disjunction × Word)) (c : Conjunction) → IsFirstWord text w → Holds (after fs o c) b → RefusesFrom (after fs o c) text w.left e
      refused text fs o c is h =
          let depth : length fs ≡ length b.outer.items = omega (arith, ap length h.outer, level_count fs) in
          record {
            front = [];
            place = is.place;
            begins = can_end (after fs o c);
            none = λ t vs ws more m may same next. let here = at_word text w is ws vs more next same in nowhere w.bytes.now fs o c t vs here.0 more a r (none fs depth) m here.1;
            expected = due fs o c _ depth (no_operator_next text is);
          }

    pub no_operator : length b.outer.items ≡ 0 → (text : List ℕ) (fs : List Open) (o : Option (Disjunction × Word)) (c : Conjunction) → IsFirstWord text w → Holds (after fs o c) b
        → RefusesFrom (after fs o c) text w.left expects.OperatorOrEnd
    no_operator alone = refused expects.OperatorOrEnd (λ fs depth. inr (omega (arith, depth, alone))) (λ fs o c next depth no. (outermost fs o c (omega (arith, depth, alone)), refl, no))

    pub no_operator_or_close : bytes_eq w.bytes.now (codes ")") ≡ false → 0 < length b.outer.items → (text : List ℕ) (fs : List Open) (o : Option (Disjunction × Word)) (c : Conjunction)
        → IsFirstWord text w → Holds (after fs o c) b → RefusesFrom (after fs o c) text w.left expects.OperatorOrClose
    no_operator_or_close other some = refused expects.OperatorOrClose (λ fs depth. inl other) (λ fs o c next depth no. (in_group fs o c (omega (arith, depth, some)), refl, no))

  pub closed : (outer : ArrayVec Level 16 (Unit {0})) (last : Level) (new : Builder) → bytes_eq w.bytes.now (codes ")") ≡ true → b.outer.items ≡ outer.items ++ last ∷ []
      → ((fs : List Open) (f : Open) (o : Option (Disjunction × Word)) (c : Conjunction)
      → HoldsGroup fs f o c last (record { compiler = b.compiler; terms = b.terms; outer = outer; level = b.level; has_operand = b.has_operand; leaves = b.leaves }) → CountsFit (after (f ∷ fs) o c)
      → Holds (with_operand fs f (a_group (or_joined o c))) new)
      → (text : List ℕ) (fs : List Open) (o : Option (Disjunction × Word)) (c : Conjunction) → IsFirstWord text w
      → Holds (after fs o c) b → CountsFit (after fs o c) → ReadsOn (after fs o c) text w.rest.now new
  closed outer last new p popped close text [] o c is h fits = absurd (omega (arith, ap length (sym h.outer ∙ popped), length-append outer.items (last ∷ [])))
  closed outer last new p popped close text (f ∷ fs) o c is h fits =
      let same = same_word w.bytes.now (codes ")") p in
      let parts = same_from_push outer.items (levels_of fs) last (level_of f) (sym popped ∙ h.outer) in
      record {
        next = with_operand fs f (a_group (or_joined o c));
        us = codes ")" ∷ [];
        moves = by_close fs f o c;
        begins = is.begins ∙ ap (λ x. x ∷ words w.rest.now) same;
        end = is.end;
        holds = close fs f o c (record {
          compiled = h.compiled;
          terms = h.terms;
          outer = parts.0;
          around = parts.1;
          or_waits = ap (λ l. l.or_waits) h.level;
          leaves = h.leaves;
        }) fits;
        only = λ t vs ws more m may e next. only_close w.bytes.now fs f o c t vs ws more same m (e ∙ ap (λ x. x ∷ ws) (sym same));
      }

pub group_closed : (b : Builder) (level : Level) (compiler : Compiler) (new : Builder) → JoinsOr b.level.or_waits b.compiler compiler
    → ((fs : List Open) (f : Open) (u : Operand) → HoldsOperand fs f u (record { compiler = compiler; terms = b.terms; outer = b.outer; level = level; has_operand = b.has_operand; leaves = b.leaves })
    → state_terms (with_operand fs f u) ≤ 64 → Holds (with_operand fs f u) new)
    → (fs : List Open) (f : Open) (o : Option (Disjunction × Word)) (c : Conjunction) → HoldsGroup fs f o c level b → CountsFit (after (f ∷ fs) o c)
    → Holds (with_operand fs f (a_group (or_joined o c))) new
group_closed b level compiler new join done fs f o c h fits =
    let u = a_group (or_joined o c) in
    let bound = fits.terms in let terms = h.terms in
    let all = or_joined_terms o c in
    done fs f u (record {
      compiled = join o c (group_formulas (f ∷ fs)) h.or_waits (few_joined (f ∷ fs) o c fits) h.compiled;
      terms = omega (arith, terms, all);
      outer = h.outer;
      level = h.around;
      leaves = h.leaves ∙ sym (joined_leaves o c);
    })
    (omega (arith, bound, all, joined_terms f.nots u f.and_left))

-- ---- the end of the text

pub finished : (b : Builder) (compiler : Compiler) → b.has_operand ≡ true → length b.outer.items ≡ 0 → JoinsOr b.level.or_waits b.compiler compiler
    → (s : State) → Holds s b → CountsFit s → IsFinished s compiler
finished b compiler operand alone join (before fs f) h fits = absurd (false≢true (sym h.operand ∙ operand))
finished b compiler operand alone join (after (f ∷ fs) o c) h fits = absurd (omega (arith, alone, ap length h.outer, level_count (f ∷ fs)))
finished b compiler operand alone join (after [] o c) h fits =
    record { or_left = o; last = c; whole = refl; compiled = join o c [] (ap (λ l. l.or_waits) h.level) (few_joined [] o c fits) h.compiled }

no_word_next : ¬ (IsOperator [])
no_word_next op = cc op.1

pub operand_missing : (b : Builder) → b.has_operand ≡ false → (s : State) → Holds s b → IsDue s [] [] expects.Operand × (IsWhole s → ⊥)
operand_missing b operand (before fs f) h = ((tt, refl, λ e. cc e), λ is. is)
operand_missing b operand (after fs o c) h = absurd (false≢true (sym operand ∙ h.operand))

pub close_missing : (b : Builder) → b.has_operand ≡ true → 0 < length b.outer.items → (s : State) → Holds s b → IsDue s [] [] expects.OperatorOrClose × (IsWhole s → ⊥)
close_missing b operand some (before fs f) h = absurd (false≢true (sym h.operand ∙ operand))
close_missing b operand some (after [] o c) h = absurd (omega (arith, some, ap length h.outer))
close_missing b operand some (after (f ∷ fs) o c) h = ((tt, refl, no_word_next), λ is. is)

-- ---- either state

pub read_after_operand : (b : Builder) (P : State → Type 0) → b.has_operand ≡ true → ((fs : List Open) (o : Option (Disjunction × Word)) (c : Conjunction) → Holds (after fs o c) b → P (after fs o c))
    → (s : State) → Holds s b → P s
read_after_operand b P operand each (before fs f) h = absurd (false≢true (sym h.operand ∙ operand))
read_after_operand b P operand each (after fs o c) h = each fs o c h

pub read_before_operand : (b : Builder) (P : State → Type 0) → b.has_operand ≡ false → ((fs : List Open) (f : Open) → Holds (before fs f) b → P (before fs f))
    → (s : State) → Holds s b → P s
read_before_operand b P operand each (before fs f) h = each fs f h
read_before_operand b P operand each (after fs o c) h = absurd (false≢true (sym operand ∙ h.operand))
