-- What a word leads to.
use Rattle.std.proofs.Common.{Some, None, is_some, IsTrue, codes}
use Rattle.std.specs.Prelude.{Option}
use Rattle.std.specs.Option.{option_map_or}
use Rattle.std.specs.Str.{bytes_eq}
use Rattle.ip_spec.proofs.Common.{◌≡◌, ℕ, ◌+◌, ◌-◌, ◌<◌, ◌≤◌, ◌^◌, min, List, [], ◌∷◌, ◌++◌, length, take, drop, refl, sym, ap, ◌∙◌, subst, arith, true, false, inl, inr, false≢true, append_assoc, length-append}
use Rattle.ip_filter.specs.declared.words.Word.{Word as FirstWord}
use Rattle.ip_filter.specs.declared.builder.Builder.{Builder}
use Rattle.ip_filter.specs.declared.parse_error.Expected.{Expected}
use Rattle.ip_filter.specs.declared.parse_error.Expected.TheVariants as expects
use Rattle.ip_filter.specs.declared.keyword.Keyword.{Keyword}
use Rattle.ip_filter.specs.declared.qualifiers.Qualifiers.{Qualifiers}
use Rattle.ip_filter.specs.declared.qualifiers.Primitive.{Primitive}
use Rattle.ip_filter.specs.Words.{Word, words}
use Rattle.ip_filter.specs.Operators.{is_not}
use Rattle.ip_filter.specs.Grammar.{Operand, Disjunction, Conjunction, a_primitive, keyword_of, IsPrimitive, filter_words, conjunction_words}
use Rattle.ip_filter.specs.Reading.{IsPlace, IsFirstWord, ReadsPrimitive, RefusesPrimitive, IsDueIn, ends_term}
use Rattle.ip_filter.specs.Parsing.{Open, State, before, nothing_open, Moves, by_not, by_open, by_primitive, may_follow, LeadsTo, with_operand, group_leaves, IsDue, open_terms, group_terms, group_words, open_words, CountsFit, Holds, HoldsOperand, ReadsOn, RefusesFrom, level_of, levels_of, group_formulas, state_terms}
use Rattle.arrayvec.specs.declared.array_vec.ArrayVec.{ArrayVec}
use Rattle.ip_filter.specs.declared.builder.Level.{Level}
use Rattle.ip_filter.specs.declared.compile.Compiler.{Compiler}
use Rattle.ip_filter.specs.Formula.{Formula, terms_of}
use Rattle.ip_filter.specs.Qualifiers.{qualifiers_at, says}
use Rattle.ip_filter.specs.Compiled.{terms_of_all, HasCompiled}
use Rattle.ip_filter.proofs.OperandLemmas.{joined_terms}
use Rattle.ip_filter.proofs.CountLemmas.{group_count}
use Rattle.ip_filter.proofs.LeadLemmas.{can_end, primitive_ends}
use Rattle.ip_filter.proofs.PrimitiveLemmas.{identifier_no_not, identifier_no_open}
use Rattle.ip_filter.proofs.WordLemmas.{same_word, either_word}
use Rattle.ip_filter.proofs.PlaceLemmas.{place_in_end}

-- no keyword is a word `not` or a parenthesis
keyword_not : (w : Word) (k : Keyword) → keyword_of w ≡ Some k → is_not w ≡ true → ⊥
keyword_not w k is n = cc (sym is ∙ either_word (λ x. keyword_of x ≡ None) w (codes "not") (codes "!") n refl refl)

keyword_open : (w : Word) (k : Keyword) → keyword_of w ≡ Some k → bytes_eq w (codes "(") ≡ true → ⊥
keyword_open w k is o = cc (sym is ∙ ap keyword_of (same_word w (codes "(") o))

primitive_not : (x : Option Qualifiers) (w : Word) (us : List Word) (p : Primitive) → IsPrimitive x w us p → is_not w ≡ true → ⊥
primitive_not x w us p is n = elim is [
  | inl t ↦ keyword_not w t.1.0 t.1.1 n
  | inr others ↦ elim others [
    | inl y ↦ let none = either_word (λ v. qualifiers_at (v ∷ us) ≡ None) w (codes "not") (codes "!") n refl refl in cc (sym y.4 ∙ none)
    | inr c ↦ false≢true (sym (identifier_no_not w c.4) ∙ n)
  ]
]

primitive_open : (x : Option Qualifiers) (w : Word) (us : List Word) (p : Primitive) → IsPrimitive x w us p → bytes_eq w (codes "(") ≡ true → ⊥
primitive_open x w us p is o = elim is [
  | inl t ↦ keyword_open w t.1.0 t.1.1 o
  | inr others ↦ elim others [
    | inl y ↦ let none = ap (λ v. qualifiers_at (v ∷ us)) (same_word w (codes "(") o) in cc (sym y.4 ∙ none)
    | inr c ↦ false≢true (sym (identifier_no_open w c.4) ∙ o)
  ]
]

module _ (fs : List Open) (f : Open) (w : Word) where
  -- ---- what may precede an operand

  only_not : (t : State) (vs ws more : List Word) → is_not w ≡ true → Moves (before fs f) vs t → vs ++ more ≡ w ∷ ws
      → (t ≡ before fs (record f { nots = f.nots ++ w ∷ [] })) × (vs ≡ w ∷ [])
  only_not t vs ws more n (by_not gs g v p) e = (cc e, cc e)
  only_not t vs ws more n (by_open gs g few) e = let same : codes "(" ≡ w = cc e in absurd (cc (ap is_not same))
  only_not t vs ws more n (by_primitive gs g v us p is few) e = let same : v ≡ w = cc e in absurd (primitive_not _ v us p is (ap is_not same ∙ n))

  only_open : (t : State) (vs ws more : List Word) → bytes_eq w (codes "(") ≡ true → Moves (before fs f) vs t → vs ++ more ≡ w ∷ ws
      → (t ≡ before (f ∷ fs) nothing_open) × (vs ≡ codes "(" ∷ []) × (length fs < 16)
  only_open t vs ws more o (by_not gs g v p) e = absurd (cc (ap is_not (same_word w (codes "(") o)))
  only_open t vs ws more o (by_open gs g few) e = (refl, refl, few)
  only_open t vs ws more o (by_primitive gs g v us p is few) e = let same : v ≡ w = cc e in absurd (primitive_open _ v us p is (ap (λ x. bytes_eq x (codes "(")) same ∙ o))

  -- ---- a primitive

  only_primitive : (t : State) (vs more tail : List Word) → is_not w ≡ false → bytes_eq w (codes "(") ≡ false → Moves (before fs f) vs t → may_follow t more → vs ++ more ≡ w ∷ tail
      → (p : Primitive) × (v : Word) × (us : List Word) × (t ≡ with_operand fs f (a_primitive v us p)) × (vs ≡ v ∷ us) × IsPrimitive (group_leaves (f ∷ fs)) v us p
      × IsTrue (ends_term more) × (state_terms (before fs f) + terms_of (says p) ≤ 64)
  only_primitive t vs more tail n o (by_not gs g v q) may e = absurd (cc n)
  only_primitive t vs more tail n o (by_open gs g few) may e = let same : w ≡ codes "(" = cc e in absurd (cc (ap (λ x. bytes_eq x (codes "(")) same))
  only_primitive t vs more tail n o (by_primitive gs g v us p is few) may e = (p, v, us, refl, refl, is, may, few)

pub level_count : (fs : List Open) → length (levels_of fs) ≡ length fs
level_count [] = refl
level_count (f ∷ fs) = omega (arith, level_count fs, length-append (levels_of fs) (level_of f ∷ []))

pub open_nots : (f : Open) → length f.nots ≤ length (open_words f)
open_nots f =
    let o = option_map_or (λ (p : Disjunction × Word). filter_words p.0 ++ p.1 ∷ []) f.or_left [] in
    let a = option_map_or (λ (p : Conjunction × Word). conjunction_words p.0 ++ p.1 ∷ []) f.and_left [] in
    omega (arith, length-append (o ++ a) f.nots)

-- ---- the first word of a text

module _ (text : List ℕ) (w : FirstWord) (is : IsFirstWord text w) where
  -- after the word
  later_place : (front : List Word) (left : ℕ) → IsPlace w.rest.now front left → IsPlace text (w.bytes.now ∷ front) left
  later_place front left p = place_in_end text w.rest.now is.end (w.bytes.now ∷ []) front left is.begins p

  pub next_word : take 1 (words (drop (length text - w.left) text)) ≡ w.bytes.now ∷ []
  next_word = ap (take 1) (sym is.place.words_before ∙ is.begins)

  -- at the word
  begins_at : words text ≡ words (drop (length text - w.left) text)
  begins_at = is.place.words_before

  pub at_word : (ws vs more : List Word) → take 1 ws ≡ take 1 (words (drop (length text - w.left) text)) → vs ++ more ≡ ws → (tail : List Word) × (vs ++ more ≡ w.bytes.now ∷ tail)
  at_word [] vs more next e = absurd (cc (next ∙ ap (take 1) (sym begins_at ∙ is.begins)))
  at_word (v ∷ ws) vs more next e = let same : v ≡ w.bytes.now = cc (next ∙ ap (take 1) (sym begins_at ∙ is.begins)) in (ws, e ∙ ap (λ x. x ∷ ws) same)

module _ (b : Builder) (w : FirstWord) where
  pub not_read : (r : ℕ) → is_not w.bytes.now ≡ true → r ≡ min (b.level.nots + 1) 18446744073709551615 → (text : List ℕ) (fs : List Open) (f : Open) → IsFirstWord text w
      → Holds (before fs f) b → CountsFit (before fs f)
      → ReadsOn (before fs f) text w.rest.now (record { compiler = b.compiler; terms = b.terms; outer = b.outer; level = record { nots = r; or_waits = b.level.or_waits; and_waits = b.level.and_waits }; has_operand = b.has_operand; leaves = b.leaves })
  not_read r n sum text fs f is h fits =
      let word = w.bytes.now in
      let more : Open = record f { nots = f.nots ++ word ∷ [] } in
      let short = fits.words in
      let count : b.level.nots ≡ length f.nots = ap (λ l. l.nots) h.level in
      let room : length f.nots < 2 ^ 63 = omega (arith, short, open_nots f, length-append (group_words fs) (open_words f)) in
      let nots : r ≡ length (f.nots ++ word ∷ []) = omega (arith, sum, count, room, length-append f.nots (word ∷ [])) in
      record {
        next = before fs more;
        us = word ∷ [];
        moves = by_not fs f word n;
        begins = is.begins;
        end = is.end;
        holds = record {
          compiled = h.compiled;
          terms = h.terms;
          outer = h.outer;
          level = ap (λ l. record { nots = r; or_waits = l.or_waits; and_waits = l.and_waits }) h.level ∙ ap (λ k. record { nots = k; or_waits = is_some f.or_left; and_waits = is_some f.and_left }) nots;
          operand = h.operand;
          leaves = h.leaves;
        };
        only = λ t vs ws more m may e next. only_not fs f word t vs ws more n m e;
      }

  pub open_read : (outer : ArrayVec Level 16 (Unit {0})) (level : Level) → bytes_eq w.bytes.now (codes "(") ≡ true → outer.items ≡ b.outer.items ++ b.level ∷ []
      → level ≡ record { nots = 0; or_waits = false; and_waits = false } → length b.outer.items < 16 → (text : List ℕ) (fs : List Open) (f : Open) → IsFirstWord text w
      → Holds (before fs f) b → CountsFit (before fs f)
      → ReadsOn (before fs f) text w.rest.now (record { compiler = b.compiler; terms = b.terms; outer = outer; level = level; has_operand = b.has_operand; leaves = b.leaves })
  open_read outer level o pushed empty room text fs f is h fits =
      let same = same_word w.bytes.now (codes "(") o in
      let few : length fs < 16 = omega (arith, room, ap length h.outer, level_count fs) in
      record {
        next = before (f ∷ fs) nothing_open;
        us = codes "(" ∷ [];
        moves = by_open fs f few;
        begins = is.begins ∙ ap (λ x. x ∷ words w.rest.now) same;
        end = is.end;
        holds = record {
          compiled = h.compiled;
          terms = h.terms ∙ (let e : group_terms fs + open_terms f ≡ group_terms fs + open_terms f + 0 = omega arith in e);
          outer = pushed ∙ ap (λ ls. ls ++ b.level ∷ []) h.outer ∙ ap (λ l. levels_of fs ++ l ∷ []) h.level;
          level = empty;
          operand = h.operand;
          leaves = h.leaves;
        };
        only = λ t vs ws more m may e next. let found = only_open fs f w.bytes.now t vs ws more o m (e ∙ ap (λ x. x ∷ ws) (sym same)) in (found.0, found.1);
      }

  pub no_more_groups : bytes_eq w.bytes.now (codes "(") ≡ true → 16 ≤ length b.outer.items → (text : List ℕ) (fs : List Open) (f : Open) → IsFirstWord text w
      → Holds (before fs f) b → RefusesFrom (before fs f) text w.left expects.LessNesting
  no_more_groups o full text fs f is h = record {
    front = [];
    place = is.place;
    begins = can_end (before fs f);
    none = λ t vs ws more m may e next.
        let here = at_word text w is ws vs more next e in
        let found = only_open fs f w.bytes.now t vs here.0 more o m here.1 in
        let few = found.2 in
        omega (arith, full, few, ap length h.outer, level_count fs);
    expected = (tt, refl, next_word text w is ∙ ap (λ x. x ∷ []) (same_word w.bytes.now (codes "(") o));
  }

  module _ (n : is_not w.bytes.now ≡ false) (o : bytes_eq w.bytes.now (codes "(") ≡ false) where
    pub primitive_refused : (left : ℕ) (e : Expected) → ((text : List ℕ) → IsFirstWord text w → bytes_eq w.bytes.now (codes "(") ≡ false → RefusesPrimitive b.leaves b.terms text left e)
        → (text : List ℕ) (fs : List Open) (f : Open) → IsFirstWord text w → Holds (before fs f) b → RefusesFrom (before fs f) text left e
    primitive_refused left e refuse text fs f is h =
        let r : RefusesPrimitive (group_leaves (f ∷ fs)) b.terms text left e = subst (λ x. RefusesPrimitive x b.terms text left e) h.leaves (refuse text is o) in
        let terms = h.terms in
        record {
          front = r.front;
          place = r.place;
          begins = λ room.
              let g = r.begins (omega (arith, room, terms)) in
              let small = g.5 in
              let more = primitive_ends fs f g.0 g.1 g.3 g.4 (omega (arith, small, terms)) in
              (more.0, g.2 ++ more.1, subst (λ ws. LeadsTo (before fs f) ws more.0) (ap (λ ws. ws ++ more.1) g.6 ∙ append_assoc r.front g.2 more.1) more.2);
          expected = due fs f r.front _ e r.expected;
          none = λ t vs ws more m may same next.
              let at : words text ≡ r.front ++ words (drop (length text - left) text) = r.place.words_before in
              let first : (tail : List Word) × (r.front ++ ws ≡ w.bytes.now ∷ tail) = begin_alike r.front ws (words (drop (length text - left) text)) next w.bytes.now (words w.rest.now) (sym at ∙ is.begins) in
              let found = only_primitive fs f w.bytes.now t vs more first.0 n o m may (same ∙ first.1) in
              let small = found.7 in
              r.none found.0 found.1 found.2 ws more found.5 (omega (arith, small, terms)) found.6 (sym (ap (λ us. us ++ more) found.4) ∙ same) next;
        } where
          due : (fs : List Open) (f : Open) (front next : List Word) (e : Expected) → IsDueIn (group_leaves (f ∷ fs)) front next e → IsDue (before fs f) front next e
          due fs f front next expects.Operand d = (tt, d.0, d.1)
          due fs f front next expects.FewerTerms d = inr d
          due fs f front next expects.LessNesting d = absurd d
          due fs f front next expects.OperatorOrEnd d = absurd d
          due fs f front next expects.OperatorOrClose d = absurd d
          due fs f front next e d = d

          begin_alike : (us vs ws : List Word) → take 1 vs ≡ take 1 ws → (v : Word) (tail : List Word) → us ++ ws ≡ v ∷ tail → (rest : List Word) × (us ++ vs ≡ v ∷ rest)
          begin_alike [] [] ws e v tail same = absurd (cc (e ∙ ap (take 1) same))
          begin_alike [] (u ∷ vs) ws e v tail same = let head : u ≡ v = cc (e ∙ ap (take 1) same) in (vs, ap (λ y. y ∷ vs) head)
          begin_alike (u ∷ us) vs ws e v tail same = let head : u ≡ v = cc same in (us ++ vs, ap (λ y. y ∷ (us ++ vs)) head)

    pub primitive_read : (p : Primitive) (rest : List ℕ) (added new : Builder) → ((text : List ℕ) → IsFirstWord text w → ReadsPrimitive b.leaves b.terms text p rest)
        → ((fs : List Open) (f : Open) (v : Word) (us : List Word) → Holds (before fs f) b → state_terms (with_operand fs f (a_primitive v us p)) ≤ 64 → HoldsOperand fs f (a_primitive v us p) added)
        → ((fs : List Open) (f : Open) (u : Operand) → HoldsOperand fs f u added → state_terms (with_operand fs f u) ≤ 64 → Holds (with_operand fs f u) new)
        → (text : List ℕ) (fs : List Open) (f : Open) → IsFirstWord text w → Holds (before fs f) b → CountsFit (before fs f) → ReadsOn (before fs f) text rest new
    primitive_read p rest added new read add done text fs f is h fits =
        let r : ReadsPrimitive (group_leaves (f ∷ fs)) b.terms text p rest = subst (λ x. ReadsPrimitive x b.terms text p rest) h.leaves (read text is) in
        let u = a_primitive r.word r.args p in
        let terms = h.terms in
        let few = fits.terms in
        let small = r.few (omega (arith, few, terms)) in
        let word : r.word ≡ w.bytes.now = cc (sym r.begins ∙ is.begins) in
        let enough : state_terms (with_operand fs f u) ≤ 64 = omega (arith, small, terms, joined_terms f.nots u f.and_left) in
        record {
          next = with_operand fs f u;
          us = r.word ∷ r.args;
          moves = by_primitive fs f r.word r.args p r.is (omega (arith, small, terms));
          begins = r.begins;
          end = r.end;
          holds = done fs f u (add fs f r.word r.args h enough) enough;
          only = λ s vs ws more m may e next.
              let found = only_primitive fs f w.bytes.now s vs more (r.args ++ ws) n o m may (e ∙ ap (λ y. y ∷ (r.args ++ ws)) word) in
              let one = r.only found.0 found.1 found.2 ws more found.5 found.6 (sym (ap (λ us. us ++ more) found.4) ∙ e) next in (
                found.3 ∙ ap (λ y. with_operand fs f (a_primitive y found.2 found.0)) one.0 ∙ ap (λ us. with_operand fs f (a_primitive r.word us found.0)) one.1
                    ∙ ap (λ q. with_operand fs f (a_primitive r.word r.args q)) one.2,
                found.4 ∙ ap (λ y. y ∷ found.2) one.0 ∙ ap (λ us. r.word ∷ us) one.1,
              );
        }

pub primitive_added : (b : Builder) (p : Primitive) (compiler : Compiler) (count k : ℕ) → ((gs : List Formula) → terms_of_all (says p ∷ gs) ≤ 64 → HasCompiled gs b.compiler → HasCompiled (says p ∷ gs) compiler)
    → count ≡ min (b.terms + k) 18446744073709551615 → k ≡ terms_of (says p) → (fs : List Open) (f : Open) (w : Word) (us : List Word) → Holds (before fs f) b
    → state_terms (with_operand fs f (a_primitive w us p)) ≤ 64
    → HoldsOperand fs f (a_primitive w us p) (record { compiler = compiler; terms = count; outer = b.outer; level = b.level; has_operand = b.has_operand; leaves = p.leaves })
primitive_added b p compiler count k add sum terms fs f w us h few =
    let before_it = h.terms in
    let all = joined_terms f.nots (a_primitive w us p) f.and_left in
    record {
      compiled = add (group_formulas (f ∷ fs)) (omega (arith, few, all, group_count (f ∷ fs))) h.compiled;
      terms = omega (arith, sum, terms, before_it, few, all);
      outer = h.outer;
      level = h.level;
      leaves = refl;
    }
