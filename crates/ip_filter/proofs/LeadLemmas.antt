-- The words of a filter lead to it, and what leads to a filter is its words.
use Rattle.std.proofs.Common.{Some, None, IsTrue, codes}
use Rattle.std.specs.Prelude.{Option}
use Rattle.std.specs.Option.{option_map_or}
use Rattle.ip_spec.proofs.Common.{◌≡◌, ◌+◌, ◌≤◌, List, [], ◌∷◌, ◌++◌, length, refl, sym, ap, ◌∙◌, subst, arith, inl, inr, append_assoc, append-nil}
use Rattle.ip_filter.specs.declared.keyword.Keyword.TheVariants as keyword
use Rattle.ip_filter.specs.declared.qualifiers.Primitive.{Primitive}
use Rattle.ip_filter.specs.declared.term.Term.TheVariants as term
use Rattle.ip_filter.specs.declared.parse_error.Expected.{Expected}
use Rattle.ip_filter.specs.declared.parse_error.Expected.TheVariants as expects
use Rattle.ip_filter.specs.Words.{Word}
use Rattle.ip_filter.specs.Formula.{terms_of}
use Rattle.ip_filter.specs.Qualifiers.{says, plain}
use Rattle.ip_filter.specs.Operators.{is_and, is_or}
use Rattle.ip_filter.specs.Grammar.{Operand, Conjunction, Disjunction, a_primitive, a_negation, a_group, an_operand, an_and, a_conjunction, an_or, operand_words, conjunction_words, filter_words, IsOperand, IsConjunction, IsDisjunction, operand_terms, conjunction_terms, terms_in, operand_depth, conjunction_depth, depth_of, IsFilter, IsPrimitive}
use Rattle.ip_filter.specs.Reading.{ends_term, WantsArgument}
use Rattle.ip_filter.specs.Parsing.{Open, State, before, after, nothing_open, HasRoom, Moves, by_not, by_open, by_primitive, by_and, by_or, by_close, may_follow, LeadsTo, ends, goes_on, with_operand, and_joined, or_joined, negate, open_terms, group_terms, state_terms, state_words, or_leaves, group_leaves, NeedsOperand, IsWhole, EndsGroup, GoesOnWith, IsDue}
use Rattle.ip_filter.specs.Parsed.{AreFilter, BeginFilter, BeginLongFilter, IsExpected}
use Rattle.ip_filter.proofs.CountLemmas.{some_in_operand, some_in_conjunction}
use Rattle.ip_filter.proofs.QualifierLemmas.{later}
use Rattle.ip_filter.proofs.StateLemmas.{Good, good_spelled, good_whole, good_operand, move_good, move_room, move_words, with_words, or_joined_words, or_joined_terms}

-- ---- what ends a term

and_ends : (w : Word) (ws : List Word) → IsTrue (is_and w) → IsTrue (ends_term (w ∷ ws))
and_ends w ws a = grind (arith, a)

or_ends : (w : Word) (ws : List Word) → IsTrue (is_or w) → IsTrue (ends_term (w ∷ ws))
or_ends w ws o = grind (arith, o)

-- ---- from a part to what follows it

negated_more : (ns : List Word) (w : Word) (u : Operand) → negate (ns ++ w ∷ []) u ≡ negate ns (a_negation w u)
negated_more [] w u = refl
negated_more (n ∷ ns) w u = ap (a_negation n) (negated_more ns w u)

module _ (d : Disjunction) where
  -- one move more
  step : (s t : State) (us ws : List Word) → Moves s us t → may_follow t ws → LeadsTo t ws d → LeadsTo s (us ++ ws) d
  step s t us ws m may l = goes_on s t us ws (us ++ ws) d refl m may l

  mutual
    operand_leads : (u : Operand) (fs : List Open) (f : Open) (ws : List Word) → IsOperand (group_leaves (f ∷ fs)) u → length fs + operand_depth u ≤ 16 → group_terms fs + open_terms f + operand_terms u ≤ 64
        → IsTrue (ends_term ws) → LeadsTo (with_operand fs f u) ws d → LeadsTo (before fs f) (operand_words u ++ ws) d
    operand_leads (a_primitive w us p) fs f ws is deep many e l = step _ _ (w ∷ us) ws (by_primitive fs f w us p is many) e l
    operand_leads (a_negation w u) fs f ws is deep many e l =
        let more : Open = record f { nots = f.nots ++ w ∷ [] } in
        step _ _ (w ∷ []) (operand_words u ++ ws) (by_not fs f w is.0) tt
        (operand_leads u fs more ws is.1 deep many e (subst (λ x. LeadsTo (after fs f.or_left (and_joined f.and_left x)) ws d) (sym (negated_more f.nots w u)) l))
    operand_leads (a_group g) fs f ws is deep many e l =
        let close : List Word = codes ")" ∷ [] in
        let inner = filter_leads g (f ∷ fs) (close ++ ws) is (omega (arith, deep)) (omega (arith, many)) refl
        (λ o c same. step _ _ close ws (by_close fs f o c) e (subst (λ x. LeadsTo (with_operand fs f (a_group x)) ws d) (sym same) l)) in
        subst (λ x. LeadsTo (before fs f) (codes "(" ∷ x) d) (sym (append_assoc (filter_words g) close ws))
        (step _ _ (codes "(" ∷ []) (filter_words g ++ (close ++ ws)) (by_open fs f (omega (arith, deep))) tt inner)

    conjunction_leads : (c : Conjunction) (fs : List Open) (o : Option (Disjunction × Word)) (ws : List Word) → IsConjunction (or_leaves (group_leaves fs) o) c → length fs + conjunction_depth c ≤ 16
        → group_terms fs + option_map_or (λ p. terms_in p.0) o 0 + conjunction_terms c ≤ 64 → IsTrue (ends_term ws) → LeadsTo (after fs o c) ws d
        → LeadsTo (before fs (record { or_left = o; and_left = None; nots = [] })) (conjunction_words c ++ ws) d
    conjunction_leads (an_operand u) fs o ws is deep many e l = operand_leads u fs _ ws is deep (omega (arith, many)) e l
    conjunction_leads (an_and c w u) fs o ws is deep many e l =
        subst (λ x. LeadsTo (before fs (record { or_left = o; and_left = None; nots = [] })) x d) (sym (append_assoc (conjunction_words c) (w ∷ operand_words u) ws))
        (conjunction_leads c fs o (w ∷ (operand_words u ++ ws)) is.0 (omega (arith, deep)) (omega (arith, many)) (and_ends w (operand_words u ++ ws) is.1)
        (step _ _ (w ∷ []) (operand_words u ++ ws) (by_and fs o c w is.1 (omega (arith, many, some_in_operand u))) tt
        (operand_leads u fs (record { or_left = o; and_left = Some (c, w); nots = [] }) ws is.2 (omega (arith, deep)) (omega (arith, many)) e l)))

    filter_leads : (g : Disjunction) (fs : List Open) (ws : List Word) → IsDisjunction (group_leaves fs) g → length fs + depth_of g ≤ 16 → group_terms fs + terms_in g ≤ 64 → IsTrue (ends_term ws)
        → ((o : Option (Disjunction × Word)) (c : Conjunction) → or_joined o c ≡ g → LeadsTo (after fs o c) ws d) → LeadsTo (before fs nothing_open) (filter_words g ++ ws) d
    filter_leads (a_conjunction c) fs ws is deep many e l = conjunction_leads c fs None ws is deep (omega (arith, many)) e (l None c refl)
    filter_leads (an_or g w c) fs ws is deep many e l =
        subst (λ x. LeadsTo (before fs nothing_open) x d) (sym (append_assoc (filter_words g) (w ∷ conjunction_words c) ws))
        (filter_leads g fs (w ∷ (conjunction_words c ++ ws)) is.0 (omega (arith, deep)) (omega (arith, many)) (or_ends w (conjunction_words c ++ ws) is.1)
        (λ o b same. step _ _ (w ∷ []) (conjunction_words c ++ ws) (by_or fs o b w is.1 (omega (arith, many, some_in_conjunction c, or_joined_terms o b, ap terms_in same))) tt
        (subst (λ x. LeadsTo (before fs (record { or_left = Some (x, w); and_left = None; nots = [] })) (conjunction_words c ++ ws) d) (sym same)
        (conjunction_leads c fs (Some (g, w)) ws is.2 (omega (arith, deep)) (omega (arith, many)) e (l (Some (g, w)) c refl)))))

-- the words of a filter lead to it
pub start_leads : (d : Disjunction) → IsFilter d → LeadsTo (before [] nothing_open) (filter_words d) d
start_leads d is =
    let deep = is.depth in let many = is.terms in
    subst (λ ws. LeadsTo (before [] nothing_open) ws d) (append-nil (filter_words d))
    (filter_leads d d [] [] is.spelled (omega (arith, deep)) (omega (arith, many)) refl (λ o c same. subst (LeadsTo (after [] o c) []) same (ends o c)))

-- ---- from what was read to a whole filter

-- what leads to a filter is the rest of its words, however many terms there are
lead_spelled : (s : State) (ws : List Word) (d : Disjunction) → LeadsTo s ws d → Good s → IsDisjunction None d × (depth_of d ≤ 16) × (filter_words d ≡ state_words s ++ ws)
lead_spelled s ws d (ends o c) good = let all = good_spelled o c good in (all.0, all.1, or_joined_words o c ∙ sym (append-nil (state_words (after [] o c))))
lead_spelled s ws d (goes_on s2 t us rest all d2 same m may l) good =
    let more = lead_spelled t rest d2 l (move_good s2 t us m good) in (
      more.0,
      more.1,
      more.2 ∙ ap (λ x. x ++ rest) (move_words s2 t us m) ∙ append_assoc (state_words s2) us rest ∙ ap (λ x. state_words s2 ++ x) (sym same),
    )

lead_terms : (s : State) (ws : List Word) (d : Disjunction) → LeadsTo s ws d → HasRoom s → terms_in d ≤ 64
lead_terms s ws d (ends o c) room = omega (arith, room, or_joined_terms o c)
lead_terms s ws d (goes_on s2 t us rest all d2 same m may l) room = lead_terms t rest d2 l (move_room s2 t us m room)

pub lead_filter : (s : State) (ws : List Word) (d : Disjunction) → LeadsTo s ws d → Good s → HasRoom s → IsFilter d × (filter_words d ≡ state_words s ++ ws)
lead_filter s ws d l good room = let all = lead_spelled s ws d l good in (record { spelled = all.0; terms = lead_terms s ws d l room; depth = all.1 }, all.2)

-- what was read may end here once each open group is closed
pub closes : (fs : List Open) (o : Option (Disjunction × Word)) (c : Conjunction) → (d : Disjunction) × (ws : List Word) × LeadsTo (after fs o c) ws d × IsTrue (ends_term ws)
closes [] o c = (or_joined o c, [], ends o c, refl)
closes (f ∷ fs) o c =
    let u = a_group (or_joined o c) in
    let more = closes fs f.or_left (and_joined f.and_left (negate f.nots u)) in
    (more.0, codes ")" ∷ more.1, goes_on _ _ (codes ")" ∷ []) more.1 _ more.0 refl (by_close fs f o c) more.3 more.2, refl)

-- so it may after a primitive
pub primitive_ends : (fs : List Open) (f : Open) (w : Word) (us : List Word) (p : Primitive) → IsPrimitive (group_leaves (f ∷ fs)) w us p → state_terms (before fs f) + terms_of (says p) ≤ 64
    → (d : Disjunction) × (ws : List Word) × LeadsTo (before fs f) (w ∷ (us ++ ws)) d
primitive_ends fs f w us p is few =
    let more = closes fs f.or_left (and_joined f.and_left (negate f.nots (a_primitive w us p))) in
    (more.0, more.1, goes_on _ _ (w ∷ us) more.1 _ more.0 refl (by_primitive fs f w us p is few) more.3 more.2)

pub can_end : (s : State) → HasRoom s → (d : Disjunction) × (ws : List Word) × LeadsTo s ws d
can_end (before fs f) few =
    let more = primitive_ends fs f (codes "fragment") [] (plain term.Fragment) (inl (term.Fragment, (keyword.Alone term.Fragment, refl, (refl, refl)), refl)) (omega (arith, few)) in
    (more.0, _, more.2)
can_end (after fs o c) few = let more = closes fs o c in (more.0, more.1, more.2)

-- ---- what is expected

module _ (s : State) (good : Good s) (room : HasRoom s) where
  begin_with : (t : State) (us : List Word) → Moves s us t → BeginFilter (state_words s ++ us)
  begin_with t us m =
      let more = can_end t (move_room s t us m room) in
      let all = lead_filter t more.1 more.0 more.2 (move_good s t us m good) (move_room s t us m room) in
      (more.0, more.1, all.0, all.1 ∙ ap (λ x. x ++ more.1) (move_words s t us m))

needs_operand : (s : State) → Good s → HasRoom s → NeedsOperand s → BeginFilter (state_words s ++ codes "not" ∷ [])
needs_operand (before fs f) good room is = begin_with (before fs f) good room _ _ (by_not fs f (codes "not") refl)
needs_operand (after fs o c) good room is = absurd is

is_whole : (s : State) → Good s → HasRoom s → IsWhole s → AreFilter (state_words s)
is_whole (after [] o c) good room is = (or_joined o c, good_whole o c good room, or_joined_words o c)
is_whole s good room is = absurd is

ends_group : (s : State) → Good s → HasRoom s → EndsGroup s → BeginFilter (state_words s ++ codes ")" ∷ [])
ends_group (after (f ∷ fs) o c) good room is = begin_with (after (f ∷ fs) o c) good room _ _ (by_close fs f o c)
ends_group s good room is = absurd is

-- a primitive of any number of terms follows
goes_on_long : (s : State) → Good s → (ws : List Word) → GoesOnWith s ws → BeginLongFilter (state_words s ++ ws)
goes_on_long (before fs f) good ws g =
    let u = a_primitive g.0 g.1 g.3 in
    let front = state_words (before fs f) in
    let deep = good.2 in
    let t = good_operand fs f u good.0 good.1 good.2 (g.4, omega (arith, deep)) in
    let more = closes fs f.or_left (and_joined f.and_left (negate f.nots u)) in
    let all = lead_spelled (with_operand fs f u) more.1 more.0 more.2 t in
    let regroup : (front ++ (ws ++ g.2)) ++ more.1 ≡ (front ++ ws) ++ (g.2 ++ more.1) = simp append_assoc in
    (more.0, g.2 ++ more.1, all.0, all.1, all.2 ∙ ap (λ x. x ++ more.1) (with_words fs f u ∙ ap (λ x. front ++ x) g.6) ∙ regroup)
goes_on_long (after fs o c) good ws g = absurd g

nothing_more : (us front : List Word) → front ≡ [] → us ≡ us ++ front
nothing_more us front e = sym (append-nil us) ∙ ap (λ ws. us ++ ws) (sym e)

module _ (s : State) (good : Good s) (room : HasRoom s) (front next : List Word) where
  pub due_is_expected : (e : Expected) → IsDue s front next e → IsExpected (state_words s ++ front) next e
  due_is_expected expects.Operand due = (subst (λ ws. BeginFilter (ws ++ codes "not" ∷ [])) (nothing_more (state_words s) front due.1) (needs_operand s good room due.0), due.2)
  due_is_expected expects.LessNesting due = (subst (λ ws. BeginFilter (ws ++ codes "not" ∷ [])) (nothing_more (state_words s) front due.1) (needs_operand s good room due.0), due.2)
  due_is_expected expects.OperatorOrEnd due = (subst AreFilter (nothing_more (state_words s) front due.1) (is_whole s good room due.0), due.2)
  due_is_expected expects.OperatorOrClose due = (subst (λ ws. BeginFilter (ws ++ codes ")" ∷ [])) (nothing_more (state_words s) front due.1) (ends_group s good room due.0), due.2)
  due_is_expected expects.FewerTerms due = elim due [
    | inl stop ↦
        inl (
          elim stop.0 [
            | inl w ↦ inl (subst AreFilter (nothing_more (state_words s) front stop.1) (is_whole s good room w))
            | inr g ↦ inr (subst (λ ws. BeginFilter (ws ++ codes ")" ∷ [])) (nothing_more (state_words s) front stop.1) (ends_group s good room g))
          ],
          stop.2,
        )
    | inr g ↦ inr (subst BeginLongFilter (sym (append_assoc (state_words s) front next)) (goes_on_long s good (front ++ next) g))
  ]
  due_is_expected e due = later e (state_words s) front due

-- an argument is expected in any state
pub argument_is_due : (s : State) (front next : List Word) (e : Expected) → WantsArgument front e → IsDue s front next e
argument_is_due s front next expects.Operand wants = absurd wants
argument_is_due s front next expects.LessNesting wants = absurd wants
argument_is_due s front next expects.OperatorOrEnd wants = absurd wants
argument_is_due s front next expects.OperatorOrClose wants = absurd wants
argument_is_due s front next expects.FewerTerms wants = absurd wants
argument_is_due s front next e wants = wants
