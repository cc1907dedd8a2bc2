-- The words and the parts of a state.
use Rattle.std.proofs.Common.{Some, None, IsTrue, codes}
use Rattle.std.specs.Prelude.{Option, ⊤}
use Rattle.std.specs.Option.{option_map_or}
use Rattle.ip_spec.proofs.Common.{◌≡◌, ℕ, ◌+◌, ◌≤◌, List, [], ◌∷◌, ◌++◌, length, refl, sym, ap, ◌∙◌, arith, append_assoc, append-nil}
use Rattle.ip_filter.specs.Words.{Word}
use Rattle.ip_filter.specs.declared.qualifiers.Qualifiers.{Qualifiers}
use Rattle.ip_filter.specs.Operators.{is_not, is_and, is_or}
use Rattle.ip_filter.specs.Grammar.{Operand, Conjunction, Disjunction, a_primitive, a_group, operand_words, conjunction_words, filter_words, IsOperand, IsConjunction, IsDisjunction, terms_in, conjunction_terms, operand_depth, conjunction_depth, depth_of, IsFilter}
use Rattle.ip_filter.specs.Parsing.{Open, State, before, after, Moves, by_not, by_open, by_primitive, by_and, by_or, by_close, with_operand, and_joined, or_joined, negate, or_leaves, and_leaves, group_leaves, HasRoom, open_words, group_words, state_words}
use Rattle.ip_filter.proofs.OperandLemmas.{joined_terms}

-- ---- the words

negate_words : (ns : List Word) (u : Operand) → operand_words (negate ns u) ≡ ns ++ operand_words u
negate_words [] u = refl
negate_words (n ∷ ns) u = ap (λ ws. n ∷ ws) (negate_words ns u)

and_joined_words : (a : Option (Conjunction × Word)) (u : Operand) → conjunction_words (and_joined a u) ≡ option_map_or (λ p. conjunction_words p.0 ++ p.1 ∷ []) a [] ++ operand_words u
and_joined_words None u = refl
and_joined_words (Some p) u = sym (append_assoc (conjunction_words p.0) (p.1 ∷ []) (operand_words u))

pub or_joined_words : (o : Option (Disjunction × Word)) (c : Conjunction) → filter_words (or_joined o c) ≡ option_map_or (λ p. filter_words p.0 ++ p.1 ∷ []) o [] ++ conjunction_words c
or_joined_words None c = refl
or_joined_words (Some p) c = sym (append_assoc (filter_words p.0) (p.1 ∷ []) (conjunction_words c))

-- an operand follows what was read
pub with_words : (fs : List Open) (f : Open) (u : Operand) → state_words (with_operand fs f u) ≡ state_words (before fs f) ++ operand_words u
with_words fs f u =
    let o = option_map_or (λ (p : Disjunction × Word). filter_words p.0 ++ p.1 ∷ []) f.or_left [] in
    let a = option_map_or (λ (p : Conjunction × Word). conjunction_words p.0 ++ p.1 ∷ []) f.and_left [] in
    let end : conjunction_words (and_joined f.and_left (negate f.nots u)) ≡ a ++ (f.nots ++ operand_words u)
    = and_joined_words f.and_left (negate f.nots u) ∙ ap (λ ws. a ++ ws) (negate_words f.nots u) in
    let regroup : group_words fs ++ o ++ (a ++ (f.nots ++ operand_words u)) ≡ group_words fs ++ (o ++ a ++ f.nots) ++ operand_words u = simp append_assoc in
    ap (λ ws. group_words fs ++ o ++ ws) end ∙ regroup

pub move_words : (s t : State) (us : List Word) → Moves s us t → state_words t ≡ state_words s ++ us
move_words s t us (by_not fs f w is) =
    let o = option_map_or (λ (p : Disjunction × Word). filter_words p.0 ++ p.1 ∷ []) f.or_left [] in
    let a = option_map_or (λ (p : Conjunction × Word). conjunction_words p.0 ++ p.1 ∷ []) f.and_left [] in
    let regroup : group_words fs ++ (o ++ a ++ (f.nots ++ w ∷ [])) ≡ group_words fs ++ (o ++ a ++ f.nots) ++ w ∷ [] = simp append_assoc in
    regroup
move_words s t us (by_open fs f few) = append-nil (group_words fs ++ open_words f ++ codes "(" ∷ [])
move_words s t us (by_primitive fs f w args p is few) = with_words fs f (a_primitive w args p)
move_words s t us (by_and fs o c w is few) =
    let l = option_map_or (λ (p : Disjunction × Word). filter_words p.0 ++ p.1 ∷ []) o [] in
    let regroup : group_words fs ++ (l ++ (conjunction_words c ++ w ∷ []) ++ []) ≡ (group_words fs ++ l ++ conjunction_words c) ++ w ∷ [] = simp (append_assoc, append-nil) in
    regroup
move_words s t us (by_or fs o c w is few) =
    let l = option_map_or (λ (p : Disjunction × Word). filter_words p.0 ++ p.1 ∷ []) o [] in
    let regroup : group_words fs ++ (((l ++ conjunction_words c) ++ w ∷ []) ++ [] ++ []) ≡ (group_words fs ++ l ++ conjunction_words c) ++ w ∷ [] = simp (append_assoc, append-nil) in
    ap (λ ws. group_words fs ++ ((ws ++ w ∷ []) ++ [] ++ [])) (or_joined_words o c) ∙ regroup
move_words s t us (by_close fs f o c) =
    let l = option_map_or (λ (p : Disjunction × Word). filter_words p.0 ++ p.1 ∷ []) o [] in
    let regroup : group_words fs ++ open_words f ++ (codes "(" ∷ ((l ++ conjunction_words c) ++ codes ")" ∷ [])) ≡ (group_words fs ++ open_words f ++ codes "(" ∷ [] ++ l ++ conjunction_words c) ++ codes ")" ∷ [] = simp append_assoc in
    with_words fs f (a_group (or_joined o c)) ∙ ap (λ ws. group_words fs ++ open_words f ++ (codes "(" ∷ (ws ++ codes ")" ∷ []))) (or_joined_words o c) ∙ regroup

pub move_some : (s t : State) (us : List Word) → Moves s us t → (v : Word) × (vs : List Word) × (us ≡ v ∷ vs)
move_some s t us (by_not fs f w is) = (w, [], refl)
move_some s t us (by_open fs f few) = (codes "(", [], refl)
move_some s t us (by_primitive fs f w args p is few) = (w, args, refl)
move_some s t us (by_and fs o c w is few) = (w, [], refl)
move_some s t us (by_or fs o c w is few) = (w, [], refl)
move_some s t us (by_close fs f o c) = (codes ")", [], refl)

-- ---- the number of terms

pub or_joined_terms : (o : Option (Disjunction × Word)) (c : Conjunction) → option_map_or (λ p. terms_in p.0) o 0 + conjunction_terms c ≡ terms_in (or_joined o c)
or_joined_terms None c = omega arith
or_joined_terms (Some p) c = refl

pub move_room : (s t : State) (us : List Word) → Moves s us t → HasRoom s → HasRoom t
move_room s t us (by_not fs f w is) few = few
move_room s t us (by_open fs f deep) few = omega (arith, few)
move_room s t us (by_primitive fs f w args p is more) few = omega (arith, more, joined_terms f.nots (a_primitive w args p) f.and_left)
move_room s t us (by_and fs o c w is more) few = omega (arith, more)
move_room s t us (by_or fs o c w is more) few = omega (arith, more, or_joined_terms o c)
move_room s t us (by_close fs f o c) few = omega (arith, few, or_joined_terms o c, joined_terms f.nots (a_group (or_joined o c)) f.and_left)

-- ---- each word means what it stands for, and nothing is nested too deeply

abbrev pub GoodOr : ℕ → Option Qualifiers → Option (Disjunction × Word) → Type 0
GoodOr k x None = ⊤
GoodOr k x (Some p) = IsDisjunction x p.0 × IsTrue (is_or p.1) × (k + depth_of p.0 ≤ 16)

abbrev pub GoodAnd : ℕ → Option Qualifiers → Option (Conjunction × Word) → Type 0
GoodAnd k x None = ⊤
GoodAnd k x (Some p) = IsConjunction x p.0 × IsTrue (is_and p.1) × (k + conjunction_depth p.0 ≤ 16)

abbrev pub AreNots : List Word → Type 0
AreNots [] = ⊤
AreNots (w ∷ ws) = IsTrue (is_not w) × AreNots ws

abbrev pub GoodOpen : ℕ → Option Qualifiers → Open → Type 0
GoodOpen k x f = GoodOr k x f.or_left × GoodAnd k (or_leaves x f.or_left) f.and_left × AreNots f.nots

abbrev pub GoodGroups : List Open → Type 0
GoodGroups [] = ⊤
GoodGroups (f ∷ fs) = GoodOpen (length fs) (group_leaves fs) f × GoodGroups fs

abbrev pub Good : State → Type 0
Good (before fs f) = GoodOpen (length fs) (group_leaves fs) f × GoodGroups fs × (length fs ≤ 16)
Good (after fs o c) =
    GoodOr (length fs) (group_leaves fs) o × (IsConjunction (or_leaves (group_leaves fs) o) c × (length fs + conjunction_depth c ≤ 16))
    × GoodGroups fs × (length fs ≤ 16)

good_nots : (ns : List Word) (w : Word) → AreNots ns → IsTrue (is_not w) → AreNots (ns ++ w ∷ [])
good_nots [] w are is = (is, tt)
good_nots (n ∷ ns) w are is = (are.0, good_nots ns w are.1 is)

good_negate : (k : ℕ) (x : Option Qualifiers) (ns : List Word) (u : Operand) → AreNots ns → IsOperand x u × (k + operand_depth u ≤ 16) → IsOperand x (negate ns u) × (k + operand_depth (negate ns u) ≤ 16)
good_negate k x [] u are good = good
good_negate k x (n ∷ ns) u are good = let more = good_negate k x ns u are.1 good in ((are.0, more.0), more.1)

good_and : (k : ℕ) (x : Option Qualifiers) (a : Option (Conjunction × Word)) (u : Operand) → GoodAnd k x a → IsOperand (and_leaves x a) u × (k + operand_depth u ≤ 16)
    → IsConjunction x (and_joined a u) × (k + conjunction_depth (and_joined a u) ≤ 16)
good_and k x None u left good = good
good_and k x (Some p) u left good = let deep = left.2 in let deeper = good.1 in ((left.0, left.1, good.0), omega (arith, deep, deeper))

pub good_or : (k : ℕ) (x : Option Qualifiers) (o : Option (Disjunction × Word)) (c : Conjunction) → GoodOr k x o → IsConjunction (or_leaves x o) c × (k + conjunction_depth c ≤ 16)
    → IsDisjunction x (or_joined o c) × (k + depth_of (or_joined o c) ≤ 16)
good_or k x None c left good = good
good_or k x (Some p) c left good = let deep = left.2 in let deeper = good.1 in ((left.0, left.1, good.0), omega (arith, deep, deeper))

pub good_operand : (fs : List Open) (f : Open) (u : Operand) → GoodOpen (length fs) (group_leaves fs) f → GoodGroups fs → length fs ≤ 16
    → IsOperand (group_leaves (f ∷ fs)) u × (length fs + operand_depth u ≤ 16) → Good (with_operand fs f u)
good_operand fs f u open_good groups few good =
    let x = group_leaves (f ∷ fs) in
    (open_good.0, good_and (length fs) (or_leaves (group_leaves fs) f.or_left) f.and_left (negate f.nots u) open_good.1 (good_negate (length fs) x f.nots u open_good.2 good), groups, few)

pub move_good : (s t : State) (us : List Word) → Moves s us t → Good s → Good t
move_good s t us (by_not fs f w is) good = ((good.0.0, good.0.1, good_nots f.nots w good.0.2 is), good.1, good.2)
move_good s t us (by_open fs f few) good = ((tt, tt, tt), (good.0, good.1), omega (arith, few))
move_good s t us (by_primitive fs f w args p is few) good = let deep = good.2 in good_operand fs f (a_primitive w args p) good.0 good.1 good.2 (is, omega (arith, deep))
move_good s t us (by_and fs o c w is few) good = ((good.0, (good.1.0, is, good.1.1), tt), good.2, good.3)
move_good s t us (by_or fs o c w is few) good = let all = good_or (length fs) (group_leaves fs) o c good.0 good.1 in (((all.0, is, all.1), tt, tt), good.2, good.3)
move_good s t us (by_close fs f o c) good =
    let all = good_or (length (f ∷ fs)) (group_leaves (f ∷ fs)) o c good.0 good.1 in
    let deep = all.1 in let deeper = good.3 in
    good_operand fs f (a_group (or_joined o c)) good.2.0 good.2.1 (omega (arith, deeper)) (all.0, omega (arith, deep))

-- the whole filter
pub good_spelled : (o : Option (Disjunction × Word)) (c : Conjunction) → Good (after [] o c) → IsDisjunction None (or_joined o c) × (depth_of (or_joined o c) ≤ 16)
good_spelled o c good =
    let all = good_or 0 None o c good.0 good.1 in
    let deep = all.1 in
    (all.0, omega (arith, deep))

pub good_whole : (o : Option (Disjunction × Word)) (c : Conjunction) → Good (after [] o c) → HasRoom (after [] o c) → IsFilter (or_joined o c)
good_whole o c good few =
    let all = good_spelled o c good in record { spelled = all.0; terms = omega (arith, few, or_joined_terms o c); depth = all.1 }
