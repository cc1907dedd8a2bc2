-- The qualifiers that words begin with.
use Rattle.std.specs.Prelude.{Option}
use Rattle.std.specs.Str.{bytes_eq}
use Rattle.std.proofs.Common.{Some, None, is_some, codes, IsTrue}
use Rattle.std.specs.Option.{option_map}
use Rattle.ip_spec.proofs.Common.{◌≡◌, ℕ, ◌+◌, ◌-◌, ◌<◌, ◌≤◌, List, [], ◌∷◌, ◌++◌, length, take, drop, refl, sym, ap, ◌∙◌, subst, arith, Bool, true, false, not, ◌||◌, if◌then◌else◌, ◌⊎◌, inl, inr, cases_Bool, false≢true, append_assoc}
use Rattle.ip_filter.specs.declared.network.Network.{Network}
use Rattle.ip_filter.specs.declared.qualifiers.Named.{Named}
use Rattle.ip_filter.specs.declared.words.Word.{Word as FirstWord}
use Rattle.ip_filter.specs.declared.parse_error.Expected.{Expected}
use Rattle.ip_filter.specs.declared.parse_error.Expected.TheVariants as expects
use Rattle.ip_filter.specs.declared.qualifiers.Protocol.{Protocol}
use Rattle.ip_filter.specs.declared.qualifiers.Direction.{Direction}
use Rattle.ip_filter.specs.declared.qualifiers.Direction.TheVariants as direction
use Rattle.ip_filter.specs.declared.qualifiers.Kind.{Kind}
use Rattle.ip_filter.specs.declared.qualifiers.Kind.TheVariants as kind
use Rattle.ip_filter.specs.declared.qualifiers.Qualifiers.{Qualifiers}
use Rattle.ip_filter.specs.declared.primitive.Head.{Head}
use Rattle.ip_filter.specs.Words.{Word, words}
use Rattle.ip_filter.specs.Numbers.{IsNetworkOrFront}
use Rattle.ip_filter.specs.Qualifiers.{protocol_named, direction_named, other_side, joined_by, joined_at, directions_at, kind_named, kind_of, of_any_protocol, side_with, side_at, sided, side_or_kind_at, with_protocol, after_protocol, qualifiers_at, wanted_side, wanted, Identifies}
use Rattle.ip_filter.specs.Operators.{is_and, is_or}
use Rattle.ip_filter.specs.Grammar.{Finds}
use Rattle.ip_filter.specs.Reading.{IsFirstWord, IsSuffix, ReadsArgument, RefusesArgument, LastIs, EndMask, WantBits, WantJoinedBits, WantsArgument, begins_no_kind, begins_no_operator, EndsDirection, EndsBefore, fewest_named, fewest_terms, BeginsNoQualifiers, ReadsDirections, RefusesDirections, ReadsKind, ReadsSide, ReadsQualifiers}
use Rattle.ip_filter.proofs.WordLemmas.{same_word}
use Rattle.ip_filter.proofs.PlaceLemmas.{whole, end_of_end, from_place, place_in_end}

pub if_cases : {A : Type 0} (P : A → Type 0) (b : Bool) (x y : A) → P x → P y → P (if b then x else y)
if_cases P true x y p q = p
if_cases P false x y p q = q

-- a word that isn't this one
pub no_word : {A : Type 0} (find : Word → Option A) (a : A) (w v : Word) → find w ≡ Some a → find v ≡ None → bytes_eq w v ≡ false
no_word find a w v found none = elim (cases_Bool (bytes_eq w v)) [ inl t ↦ absurd (cc (sym found ∙ ap find (same_word w v t) ∙ none)) | inr f ↦ f ]

-- ---- the words of kinds

kind_named_no_side : (w : Word) → kind_named w ≡ Some kind.Side → ⊥
kind_named_no_side w =
    let No : Option Kind → Type 0 = λ k. k ≡ Some kind.Side → ⊥ in
    if_cases No (bytes_eq w (codes "host")) _ _ (λ e. cc e)
    (if_cases No (bytes_eq w (codes "net")) _ _ (λ e. cc e) (if_cases No (bytes_eq w (codes "port") || bytes_eq w (codes "portrange")) _ _ (λ e. cc e) (λ e. cc e)))

kind_of_no_side : (w : Word) → kind_of w ≡ Some kind.Side → ⊥
kind_of_no_side w = if_cases (λ k. k ≡ Some kind.Side → ⊥) (bytes_eq w (codes "proto")) _ _ (λ e. cc e) (kind_named_no_side w)

kind_of_named : (w : Word) (k : Kind) → kind_named w ≡ Some k → kind_of w ≡ Some k
kind_of_named w k e = elim (cases_Bool (bytes_eq w (codes "proto"))) [
  | inl t ↦ let none : kind_named w ≡ None = ap kind_named (same_word w (codes "proto") t) in absurd (cc (sym e ∙ none))
  | inr f ↦ ap (λ b. if b then Some kind.Protocol else kind_named w) f ∙ e
]

kind_named_no_protocol : (w : Word) → kind_named w ≡ Some kind.Protocol → ⊥
kind_named_no_protocol w =
    let No : Option Kind → Type 0 = λ k. k ≡ Some kind.Protocol → ⊥ in
    if_cases No (bytes_eq w (codes "host")) _ _ (λ e. cc e)
    (if_cases No (bytes_eq w (codes "net")) _ _ (λ e. cc e) (if_cases No (bytes_eq w (codes "port") || bytes_eq w (codes "portrange")) _ _ (λ e. cc e) (λ e. cc e)))

pub kind_ends : (k : Kind) (w : Word) → kind_of w ≡ Some k → (d : Direction) (ws : List Word) → EndsBefore d k ws
kind_ends kind.Side w e d ws = absurd (kind_of_no_side w e)
kind_ends k w e d ws = tt

pub kind_wants : (k : Kind) (front : List Word) (w : Word) → kind_of w ≡ Some k → WantsArgument (front ++ w ∷ []) (wanted k)
kind_wants kind.Side front w e = absurd (kind_of_no_side w e)
kind_wants kind.Host front w e = (front, w, refl, e)
kind_wants kind.Network front w e = (front, w, refl, e)
kind_wants kind.Ports front w e = (front, w, refl, e)
kind_wants kind.Protocol front w e = (front, w, refl, inr e)

pub later_last : (us front : List Word) (Is : Word → Type 0) → LastIs Is front → LastIs Is (us ++ front)
later_last us front Is last = (us ++ last.0, last.1, ap (λ ws. us ++ ws) last.2 ∙ sym (append_assoc us last.0 (last.1 ∷ [])), last.3)

later_mask : (us front : List Word) → EndMask front → EndMask (us ++ front)
later_mask us front end =
    (us ++ end.0, end.1, end.2, end.3, ap (λ ws. us ++ ws) end.4 ∙ sym (append_assoc us end.0 (end.1 ∷ codes "&" ∷ end.2)), end.5, end.6)

later_bits : (us front : List Word) → WantBits front → WantBits (us ++ front)
later_bits us front wants = elim wants [
  | inl sign ↦ inl (later_last us front _ sign)
  | inr compared ↦
      inr (
        us ++ compared.0,
        compared.1,
        ap (λ ws. us ++ ws) compared.2 ∙ sym (append_assoc us compared.0 (compared.1 ∷ [])),
        compared.3,
        elim compared.4 [ inl access ↦ inl (later_last us compared.0 _ access) | inr mask ↦ inr (later_mask us compared.0 mask) ],
      )
]

later_joined : (us front : List Word) → WantJoinedBits front → WantJoinedBits (us ++ front)
later_joined us front wants = elim wants [
  | inl opens ↦ inl (us ++ opens.0, ap (λ ws. us ++ ws) opens.1 ∙ sym (append_assoc us opens.0 (codes "(" ∷ [])), later_bits us opens.0 opens.2)
  | inr bar ↦ inr (later_last us front _ bar)
]

pub later : (e : Expected) (us front : List Word) → WantsArgument front e → WantsArgument (us ++ front) e
later expects.Version us front wants = later_last us front _ wants
later expects.Header us front wants = later_last us front _ wants
later expects.Protocol us front wants = later_last us front _ wants
later expects.Number us front wants = later_last us front _ wants
later expects.Byte us front wants = later_last us front _ wants
later expects.IcmpType us front wants = later_last us front _ wants
later expects.Icmp6Type us front wants = later_last us front _ wants
later expects.Comparison us front wants = elim wants [ inl count ↦ inl (later_last us front _ count) | inr mask ↦ inr (later_mask us front mask) ]
later expects.Count us front wants = (us ++ wants.0, wants.1, wants.2, ap (λ ws. us ++ ws) wants.3 ∙ sym (append_assoc us wants.0 (wants.1 ∷ wants.2 ∷ [])), wants.4, wants.5)
later expects.Network us front wants = later_last us front _ wants
later expects.Mask us front wants = later_last us front _ wants
later expects.Address us front wants = later_last us front _ wants
later expects.NetworkOrPort us front wants = later_last us front _ wants
later expects.Ports us front wants = later_last us front _ wants
later expects.TcpFlags us front wants = later_last us front _ wants
later expects.MaskOrComparison us front wants = later_last us front _ wants
later expects.Bits us front wants = later_bits us front wants
later expects.JoinedBits us front wants = later_joined us front wants
later expects.JoinedBitsEnd us front wants = (us ++ wants.0, wants.1, ap (λ ws. us ++ ws) wants.2 ∙ sym (append_assoc us wants.0 (wants.1 ∷ [])), wants.3, later_joined us wants.0 wants.4)
later expects.Source us front wants = (us ++ wants.0, wants.1, ap (λ ws. us ++ ws) wants.2 ∙ sym (append_assoc us wants.0 (codes "dst" ∷ wants.1 ∷ [])), wants.3)
later expects.Destination us front wants = (us ++ wants.0, wants.1, ap (λ ws. us ++ ws) wants.2 ∙ sym (append_assoc us wants.0 (codes "src" ∷ wants.1 ∷ [])), wants.3)
later e us front wants = absurd wants

-- ---- where qualifiers end

no_kind_alike : (us vs : List Word) → take 1 us ≡ take 1 vs → begins_no_kind us ≡ begins_no_kind vs
no_kind_alike [] [] e = refl
no_kind_alike [] (v ∷ vs) e = absurd (cc e)
no_kind_alike (u ∷ us) [] e = absurd (cc e)
no_kind_alike (u ∷ us) (v ∷ vs) e = let same : u ≡ v = cc e in ap (λ x. not (is_some (kind_named x))) same

no_operator_alike : (us vs : List Word) → take 1 us ≡ take 1 vs → begins_no_operator us ≡ begins_no_operator vs
no_operator_alike [] [] e = refl
no_operator_alike [] (v ∷ vs) e = absurd (cc e)
no_operator_alike (u ∷ us) [] e = absurd (cc e)
no_operator_alike (u ∷ us) (v ∷ vs) e = let same : u ≡ v = cc e in ap (λ x. not (is_or x || is_and x)) same

direction_alike : (d : Direction) (us vs : List Word) → take 1 us ≡ take 1 vs → EndsDirection d vs → EndsDirection d us
direction_alike direction.Source us vs e ends = no_operator_alike us vs e ∙ ends
direction_alike direction.Destination us vs e ends = no_operator_alike us vs e ∙ ends
direction_alike direction.Either us vs e ends = tt
direction_alike direction.Both us vs e ends = tt

pub ends_alike : (d : Direction) (k : Kind) (us vs : List Word) → take 1 us ≡ take 1 vs → EndsBefore d k vs → EndsBefore d k us
ends_alike d kind.Side us vs e ends = (direction_alike d us vs e ends.0, no_kind_alike us vs e ∙ ends.1)
ends_alike d k us vs e ends = tt

side_without : (o : Option Kind) (d : Direction) (w : Word) (ws : List Word) → not (is_some o) ≡ true → side_with d o w ws ≡ (of_any_protocol d kind.Side, w ∷ ws)
side_without None d w ws e = refl
side_without (Some k) d w ws e = absurd (false≢true e)

pub side_without_kind : (d : Direction) (ws : List Word) → IsTrue (begins_no_kind ws) → side_at d ws ≡ (of_any_protocol d kind.Side, ws)
side_without_kind d [] e = refl
side_without_kind d (w ∷ ws) e = side_without (kind_named w) d w ws e

-- ---- directions

pub direction_ends : (d : Direction) (ws : List Word) → IsTrue (begins_no_operator ws) → EndsDirection d ws
direction_ends direction.Source ws e = e
direction_ends direction.Destination ws e = e
direction_ends direction.Either ws e = tt
direction_ends direction.Both ws e = tt

-- a word that is one direction
abbrev IsSide : Direction → Word → Type 0
IsSide direction.Source w = w ≡ codes "src"
IsSide direction.Destination w = w ≡ codes "dst"
IsSide d w = ⊥

named_side : (d : Direction) (w : Word) → Some d ≡ direction_named w → IsSide d w
named_side d w = elim (cases_Bool (bytes_eq w (codes "src"))) [
  | inl t ↦ λ e. source d (cc (e ∙ ap (λ b. if b then Some direction.Source else if bytes_eq w (codes "dst") then Some direction.Destination else None) t)) (same_word w (codes "src") t)
  | inr f ↦ elim (cases_Bool (bytes_eq w (codes "dst"))) [
    | inl t ↦ λ e. destination d (cc (e ∙ ap (λ b. if b then Some direction.Source else if bytes_eq w (codes "dst") then Some direction.Destination else None) f ∙ ap (λ b. if b then Some direction.Destination else None) t)) (same_word w (codes "dst") t)
    | inr g ↦ λ e. absurd (cc (e ∙ ap (λ b. if b then Some direction.Source else if bytes_eq w (codes "dst") then Some direction.Destination else None) f ∙ ap (λ b. if b then Some direction.Destination else None) g))
  ]
] where
  source : (d : Direction) → d ≡ direction.Source → w ≡ codes "src" → IsSide d w
  source d e is = subst (λ x. IsSide x w) (sym e) is

  destination : (d : Direction) → d ≡ direction.Destination → w ≡ codes "dst" → IsSide d w
  destination d e is = subst (λ x. IsSide x w) (sym e) is

side_ends : (d : Direction) (w : Word) → IsSide d w → (ws : List Word) → EndsDirection d ws → IsTrue (begins_no_operator ws)
side_ends direction.Source w is ws ends = ends
side_ends direction.Destination w is ws ends = ends
side_ends direction.Either w is ws ends = absurd is
side_ends direction.Both w is ws ends = absurd is

side_is_one : (d : Direction) (w : Word) → IsSide d w → fewest_named d ≡ 1
side_is_one direction.Source w is = refl
side_is_one direction.Destination w is = refl
side_is_one direction.Either w is = refl
side_is_one direction.Both w is = absurd is

side_joins : (d : Direction) (w : Word) → IsSide d w → (o : Word) → IsTrue (is_and o || is_or o) → WantsArgument (w ∷ o ∷ []) (wanted_side d)
side_joins direction.Source w is o joins = ([], o, ap (λ v. v ∷ o ∷ []) is, joins)
side_joins direction.Destination w is o joins = ([], o, ap (λ v. v ∷ o ∷ []) is, joins)
side_joins direction.Either w is o joins = absurd is
side_joins direction.Both w is o joins = absurd is

neither : {A : Type 0} (a b : Bool) (x y z : A) → not (a || b) ≡ true → (if a then x else if b then y else z) ≡ z
neither false false x y z e = refl
neither false true x y z e = absurd (false≢true e)
neither true b x y z e = absurd (false≢true e)

pub alone_at : (d : Direction) (ws : List Word) → IsTrue (begins_no_operator ws) → directions_at d ws ≡ Some (d, ws)
alone_at d [] e = refl
alone_at d (w ∷ ws) e = neither (is_or w) (is_and w) _ _ _ e

-- the other side joins
pub other_joins : (d e : Direction) → joined_by d e (other_side d) ≡ Some e
other_joins direction.Source e = refl
other_joins direction.Destination e = refl
other_joins direction.Either e = refl
other_joins direction.Both e = refl

other_named : (d : Direction) → IsTrue (is_some (direction_named (other_side d)))
other_named direction.Source = refl
other_named direction.Destination = refl
other_named direction.Either = refl
other_named direction.Both = refl

joining : (d e f : Direction) (w : Word) → joined_by d e w ≡ Some f → (f ≡ e) × (w ≡ other_side d)
joining d e f w j = elim (cases_Bool (bytes_eq w (other_side d))) [
  | inl t ↦ (cc (sym j ∙ ap (λ b. if b then Some e else None) t), same_word w (other_side d) t)
  | inr g ↦ absurd (cc (sym j ∙ ap (λ b. if b then Some e else None) g))
]

same_words : (f g : Direction × List Word) → Some f ≡ Some g → f ≡ g
same_words f g e = cc e

module _ (first : Word) (d : Direction) (named : Some d ≡ direction_named first) (n : ℕ) (text : List ℕ) where
  is_side : IsSide d first
  is_side = named_side d first named

  side_alone : IsTrue (begins_no_operator (words text)) → ReadsDirections first d n text d text
  side_alone none = record {
    front = [];
    begins = refl;
    end = whole text;
    at = λ ws ends. alone_at d ws (side_ends d first is_side ws ends);
    ends = direction_ends d (words text) none;
    last = ([], first, refl, ap is_some (sym named));
    room = λ few. omega (arith, few, side_is_one d first is_side);
  }

  pub side_before_end : words text ≡ [] → ReadsDirections first d n text d text
  side_before_end e = side_alone (ap begins_no_operator e)

  module _ (o : FirstWord) (is : IsFirstWord text o) where
    pub side_before_other : is_or o.bytes.now ≡ false → is_and o.bytes.now ≡ false → ReadsDirections first d n text d text
    side_before_other no_or no_and = side_alone (ap begins_no_operator is.begins ∙ ap (λ b. not (b || is_and o.bytes.now)) no_or ∙ ap not no_and)

    -- an operator that joins the directions to e
    module _ (e : Direction) (joins : IsTrue (is_and o.bytes.now || is_or o.bytes.now)) (by : (ws : List Word) → directions_at d (o.bytes.now ∷ ws) ≡ joined_at d e ws) (fits : n < 64 → n + fewest_named e ≤ 64)
        (loose : (ws : List Word) → EndsDirection e ws) where
      pub sides_read : (f : Direction) (rest : List ℕ) → ReadsArgument (Finds (joined_by d e)) o.rest.now f rest → ReadsDirections first d n text f rest
      sides_read f rest r =
          let j = joining d e f r.word r.writes in
          record {
            front = o.bytes.now ∷ r.word ∷ [];
            begins = is.begins ∙ ap (λ ws. o.bytes.now ∷ ws) r.begins;
            end = end_of_end text o.rest.now is.end rest r.end;
            at = λ ws ends. by (r.word ∷ ws) ∙ ap (option_map {U = Direction × List Word} (λ g. (g, ws))) r.writes;
            ends = subst (λ g. EndsDirection g (words rest)) (sym j.0) (loose (words rest));
            last = (first ∷ o.bytes.now ∷ [], r.word, refl, subst (λ w. IsTrue (is_some (direction_named w))) (sym j.1) (other_named d));
            room = λ few. subst (λ g. n + fewest_named g ≤ 64) (sym j.0) (fits few);
          }

      pub side_missing : (left : ℕ) (x : Expected) → RefusesArgument (Finds (joined_by d e)) o.rest.now left × (x ≡ wanted_side d) → RefusesDirections first d n text left x
      side_missing left x r =
          let at = from_place text o.rest.now is.end left r.0.place.within in
          record {
            front = o.bytes.now ∷ [];
            place = place_in_end text o.rest.now is.end (o.bytes.now ∷ []) [] left is.begins r.0.place;
            begins = λ few. (other_side d ∷ [], e, λ us. by (other_side d ∷ us) ∙ ap (option_map {U = Direction × List Word} (λ g. (g, us))) (other_joins d e), fits few);
            none = λ ws more f next there. absurd (nothing ws more f (next ∙ sym (ap (take 1) (r.0.place.words_before ∙ ap words at))) (sym (by ws) ∙ there));
            expected = inl (subst (WantsArgument (first ∷ o.bytes.now ∷ [])) (sym r.1) (side_joins d first is_side o.bytes.now joins));
          } where
            nothing : (ws more : List Word) (f : Direction) → take 1 ws ≡ take 1 (words o.rest.now) → joined_at d e ws ≡ Some (f, more) → ⊥
            nothing [] more f next there = cc there
            nothing (v ∷ vs) more f next there = here (joined_by d e v) refl there where
              here : (j : Option Direction) → joined_by d e v ≡ j → option_map {U = Direction × List Word} (λ g. (g, vs)) j ≡ Some (f, more) → ⊥
              here None found there = cc there
              here (Some g) found there = r.0.none v g (sym next) found

    joins_or : is_or o.bytes.now ≡ true → IsTrue (is_and o.bytes.now || is_or o.bytes.now)
    joins_or t = here (is_and o.bytes.now) (is_or o.bytes.now) t where
      here : (a b : Bool) → b ≡ true → (a || b) ≡ true
      here true b e = refl
      here false b e = e

    by_or : is_or o.bytes.now ≡ true → (ws : List Word) → directions_at d (o.bytes.now ∷ ws) ≡ joined_at d direction.Either ws
    by_or t ws = ap (λ b. if b then joined_at d direction.Either ws else if is_and o.bytes.now then joined_at d direction.Both ws else Some (d, o.bytes.now ∷ ws)) t

    pub or_sides_read : is_or o.bytes.now ≡ true → (f : Direction) (rest : List ℕ) → ReadsArgument (Finds (joined_by d direction.Either)) o.rest.now f rest → ReadsDirections first d n text f rest
    or_sides_read t = sides_read direction.Either (joins_or t) (by_or t) (λ few. omega (arith, few)) (λ ws. tt)

    pub or_side_missing : is_or o.bytes.now ≡ true → (left : ℕ) (x : Expected) → RefusesArgument (Finds (joined_by d direction.Either)) o.rest.now left × (x ≡ wanted_side d) → RefusesDirections first d n text left x
    or_side_missing t = side_missing direction.Either (joins_or t) (by_or t) (λ few. omega (arith, few)) (λ ws. tt)

    module _ (no_or : is_or o.bytes.now ≡ false) (t : is_and o.bytes.now ≡ true) where
      joins_and : IsTrue (is_and o.bytes.now || is_or o.bytes.now)
      joins_and = ap (λ a. a || is_or o.bytes.now) t

      by_and_sign : (ws : List Word) → directions_at d (o.bytes.now ∷ ws) ≡ joined_at d direction.Both ws
      by_and_sign ws = ap (λ b. if b then joined_at d direction.Either ws else if is_and o.bytes.now then joined_at d direction.Both ws else Some (d, o.bytes.now ∷ ws)) no_or
          ∙ ap (λ b. if b then joined_at d direction.Both ws else Some (d, o.bytes.now ∷ ws)) t

      pub and_sides_read : n < 63 → (f : Direction) (rest : List ℕ) → ReadsArgument (Finds (joined_by d direction.Both)) o.rest.now f rest → ReadsDirections first d n text f rest
      and_sides_read fewer = sides_read direction.Both joins_and by_and_sign (λ few. omega (arith, fewer)) (λ ws. tt)

      pub and_side_missing : n < 63 → (left : ℕ) (x : Expected) → RefusesArgument (Finds (joined_by d direction.Both)) o.rest.now left × (x ≡ wanted_side d) → RefusesDirections first d n text left x
      and_side_missing fewer = side_missing direction.Both joins_and by_and_sign (λ few. omega (arith, fewer)) (λ ws. tt)

    -- no room for both
    pub sides_long : 63 ≤ n → is_or o.bytes.now ≡ false → is_and o.bytes.now ≡ true → RefusesDirections first d n text o.left expects.FewerTerms
    sides_long many no_or and_there =
        let next_is : take 1 (words (drop (length text - o.left) text)) ≡ o.bytes.now ∷ [] = ap (take 1) (sym is.place.words_before ∙ is.begins) in
        record {
          front = [];
          place = is.place;
          begins = λ few. (codes "or" ∷ other_side d ∷ [], direction.Either, λ us. ap (option_map {U = Direction × List Word} (λ g. (g, us))) (other_joins d direction.Either), omega (arith, few));
          none = λ ws more f next there. both_there ws more f (next ∙ next_is) there;
          expected = inr (refl, rw next_is (other_side d ∷ [], direction.Both, λ us. by_and_sign no_or and_there (other_side d ∷ us) ∙ ap (option_map {U = Direction × List Word} (λ g. (g, us))) (other_joins d direction.Both), tt));
        } where
          joined_both : (ws more : List Word) (f : Direction) → joined_at d direction.Both ws ≡ Some (f, more) → f ≡ direction.Both
          joined_both [] more f there = absurd (cc there)
          joined_both (v ∷ vs) more f there = here (joined_by d direction.Both v) refl there where
            here : (j : Option Direction) → joined_by d direction.Both v ≡ j → option_map {U = Direction × List Word} (λ g. (g, vs)) j ≡ Some (f, more) → f ≡ direction.Both
            here None found there = absurd (cc there)
            here (Some g) found there = ap (λ x. x.0) (same_words (f, more) (g, vs) (sym there)) ∙ (joining d direction.Both g v found).0

          both_there : (ws more : List Word) (f : Direction) → take 1 ws ≡ o.bytes.now ∷ [] → directions_at d ws ≡ Some (f, more) → (f ≡ direction.Both) × (62 < n)
          both_there [] more f next there = absurd (cc next)
          both_there (v ∷ vs) more f next there =
              let same : v ≡ o.bytes.now = cc next in
              (joined_both vs more f (sym (ap (λ u. directions_at d (u ∷ vs)) same ∙ by_and_sign no_or and_there vs) ∙ there), omega (arith, many))

-- ---- identifiers

pub no_network_named : (k : Kind) (d : Direction) (w : Word) → k ≡ kind.Network → ((a : Network) → IsNetworkOrFront w a → ⊥) → (n : Named) → Identifies k d w n → ⊥
no_network_named k d w same bad n is = let there = subst (λ x. Identifies x d w n) same is in bad there.0 there.1

-- ---- what is read

kind_no_operator : (w : Word) (k : Kind) → kind_named w ≡ Some k → not (is_or w || is_and w) ≡ true
kind_no_operator w k e =
    let bad = λ (v : Word) (none : kind_named v ≡ None). no_word kind_named k w v e none in
    grind (arith, bad (codes "or") refl, bad (codes "||") refl, bad (codes "and") refl, bad (codes "&&") refl)

pub kind_read : (text : List ℕ) (w : FirstWord) (k : Kind) → IsFirstWord text w → Some k ≡ kind_named w.bytes.now → ReadsKind text k w.rest.now
kind_read text w k is found =
    let known = kind_of_named w.bytes.now k (sym found) in
    record {
      front = w.bytes.now ∷ [];
      begins = is.begins;
      end = is.end;
      at = λ d ws ends. (ap (λ o. side_with d o w.bytes.now ws) (sym found), direction_ends d (w.bytes.now ∷ ws) (kind_no_operator w.bytes.now k (sym found)));
      ends = λ d ends. kind_ends k w.bytes.now known d (words w.rest.now);
      wants = λ v side. kind_wants k (v ∷ []) w.bytes.now known;
    }

side_read : (text : List ℕ) → IsTrue (begins_no_kind (words text)) → ReadsKind text kind.Side text
side_read text none = record {
  front = [];
  begins = refl;
  end = whole text;
  at = λ d ws ends. (side_without_kind d ws ends.1, ends.0);
  ends = λ d ends. (ends, none);
  wants = λ w side. ([], w, refl, side);
}

pub other_read : (text : List ℕ) (w : FirstWord) → IsFirstWord text w → None ≡ kind_named w.bytes.now → ReadsKind text kind.Side text
other_read text w is none = side_read text (ap begins_no_kind is.begins ∙ ap (λ o. not (is_some o)) (sym none))

pub nothing_read : (text : List ℕ) → words text ≡ [] → ReadsKind text kind.Side text
nothing_read text none = side_read text (ap begins_no_kind none)

module _ (n : ℕ) (text : List ℕ) (w : FirstWord) (is : IsFirstWord text w) (h : Head) where
  pub direction_read : (d e : Direction) (k : Kind) (mid : List ℕ) → Some d ≡ direction_named w.bytes.now → h.qualifiers ≡ of_any_protocol e k
      → ReadsDirections w.bytes.now d n w.rest.now e mid → ReadsKind mid k h.rest.now → ReadsSide n text h
  direction_read d e k mid found same r i = record {
    first = w.bytes.now;
    front = r.front ++ i.front;
    begins = is.begins ∙ ap (λ ws. w.bytes.now ∷ ws) (r.begins ∙ ap (λ ws. r.front ++ ws) i.begins ∙ sym (append_assoc r.front i.front (words h.rest.now)));
    end = end_of_end text w.rest.now is.end h.rest.now (end_of_end w.rest.now mid r.end h.rest.now i.end);
    any = ap (λ x. x.protocol) same;
    some = ap (λ o. is_some (sided o (kind_of w.bytes.now) [])) (sym found);
    at = λ ws ends.
        let there = i.at e ws (subst (λ x. EndsBefore x.direction x.kind ws) same ends) in
        ap (λ o. sided o (kind_of w.bytes.now) ((r.front ++ i.front) ++ ws)) (sym found)
        ∙ ap (option_map (λ f. side_at f.0 f.1)) (ap (directions_at d) (append_assoc r.front i.front ws) ∙ r.at (i.front ++ ws) there.1)
        ∙ ap Some (there.0 ∙ ap (λ x. (x, ws)) (sym same));
    ends = subst (λ x. EndsBefore x.direction x.kind (words h.rest.now)) (sym same) (i.ends e r.ends);
    wants =
        let last = r.last in
        let whole_front : w.bytes.now ∷ (r.front ++ i.front) ≡ last.0 ++ last.1 ∷ i.front = ap (λ us. us ++ i.front) last.2 ∙ append_assoc last.0 (last.1 ∷ []) i.front in
        subst (λ x. WantsArgument (w.bytes.now ∷ (r.front ++ i.front)) (wanted x.kind)) (sym same)
        (subst (λ us. WantsArgument us (wanted k)) (sym whole_front) (later (wanted k) last.0 (last.1 ∷ i.front) (i.wants last.1 last.3)));
    room = λ few. subst (λ x. n + fewest_named x.direction ≤ 64) (sym same) (r.room few);
  }

  pub kind_alone_read : (k : Kind) → None ≡ direction_named w.bytes.now → Some k ≡ kind_of w.bytes.now → h.qualifiers ≡ of_any_protocol direction.Either k
      → h.rest.now ≡ w.rest.now → ReadsSide n text h
  kind_alone_read k none found same rest = record {
    first = w.bytes.now;
    front = [];
    begins = is.begins ∙ ap (λ s. w.bytes.now ∷ words s) (sym rest);
    end = subst (IsSuffix text) (sym rest) is.end;
    any = ap (λ x. x.protocol) same;
    some = ap (λ o. is_some (sided o (kind_of w.bytes.now) [])) (sym none) ∙ ap (λ o. is_some (sided None o [])) (sym found);
    at = λ ws ends. ap (λ o. sided o (kind_of w.bytes.now) ws) (sym none) ∙ ap (λ o. sided None o ws) (sym found) ∙ ap (λ x. Some (x, ws)) (sym same);
    ends = subst (λ x. EndsBefore x.direction x.kind (words h.rest.now)) (sym same) (kind_ends k w.bytes.now (sym found) direction.Either (words h.rest.now));
    wants = subst (λ x. WantsArgument (w.bytes.now ∷ []) (wanted x.kind)) (sym same) (kind_wants k [] w.bytes.now (sym found));
    room = λ few. subst (λ x. n + fewest_named x.direction ≤ 64) (sym same) (omega (arith, few));
  }

pub no_side_read : (w : Word) (ws : List Word) → None ≡ direction_named w → None ≡ kind_of w → side_or_kind_at (w ∷ ws) ≡ None
no_side_read w ws none none2 = ap (λ o. sided o (kind_of w) ws) (sym none) ∙ ap (λ o. sided None o ws) (sym none2)

no_more : (x : Qualifiers) → x.protocol ≡ None → fewest_terms x ≡ fewest_named x.direction
no_more x e = let same = ap (λ o. fewest_terms (record x { protocol = o })) e in omega (arith, same)

module _ (n : ℕ) (text : List ℕ) (w : FirstWord) (is : IsFirstWord text w) where
  pub any_read : (h : Head) → None ≡ protocol_named w.bytes.now → ReadsSide n text h → ReadsQualifiers n text h
  any_read h none r =
      let same : r.first ≡ w.bytes.now = cc (sym r.begins ∙ is.begins) in
      let none_there : protocol_named r.first ≡ None = ap protocol_named same ∙ sym none in
      record {
        word = r.first;
        front = r.front;
        begins = r.begins;
        end = r.end;
        any = λ e. r.some;
        with = λ p e. absurd (cc (sym r.any ∙ e));
        at = λ ws ends. ap (λ o. after_protocol o r.first (r.front ++ ws)) none_there ∙ r.at ws ends;
        ends = r.ends;
        wants = r.wants;
        room = λ few. let fits = r.room few in omega (arith, fits, no_more h.qualifiers r.any);
      }

  pub protocol_read : (p : Protocol) (next h : Head) → Some p ≡ protocol_named w.bytes.now → ReadsSide (n + 1) w.rest.now next → n < 63
      → h.qualifiers ≡ record { protocol = Some p; direction = next.qualifiers.direction; kind = next.qualifiers.kind } → h.rest.now ≡ next.rest.now
      → ReadsQualifiers n text h
  protocol_read p next h found r fewer same rest =
      let wants : WantsArgument (w.bytes.now ∷ r.first ∷ r.front) (wanted next.qualifiers.kind) = later (wanted next.qualifiers.kind) (w.bytes.now ∷ []) (r.first ∷ r.front) r.wants in
      let room_there = r.room (omega (arith, fewer)) in
      record {
        word = w.bytes.now;
        front = r.first ∷ r.front;
        begins = is.begins ∙ ap (λ ws. w.bytes.now ∷ ws) r.begins ∙ ap (λ s. w.bytes.now ∷ r.first ∷ (r.front ++ words s)) (sym rest);
        end = subst (IsSuffix text) (sym rest) (end_of_end text w.rest.now is.end next.rest.now r.end);
        any = λ e. absurd (cc (sym e ∙ ap (λ x. x.protocol) same));
        with = λ q e. let is_p : p ≡ q = cc (sym (ap (λ x. x.protocol) same) ∙ e) in (r.first, r.front, refl, sym found ∙ ap Some is_p, r.some);
        at = λ ws ends.
            ap (λ o. after_protocol o w.bytes.now (r.first ∷ (r.front ++ ws))) (sym found)
            ∙ ap (option_map (with_protocol p)) (r.at ws (subst (λ x. EndsBefore x.direction x.kind ws) same ends)) ∙ ap (λ x. Some (x, ws)) (sym same);
        ends = subst (λ x. EndsBefore x.direction x.kind (words h.rest.now)) (sym same) (subst (λ s. EndsBefore next.qualifiers.direction next.qualifiers.kind (words s)) (sym rest) r.ends);
        wants = subst (λ x. WantsArgument (w.bytes.now ∷ r.first ∷ r.front) (wanted x.kind)) (sym same) wants;
        room = λ few. subst (λ x. n + fewest_terms x ≤ 64) (sym same) (omega (arith, room_there));
      }

-- no qualifiers begin with a word that begins none
sided_none : (d : Option Direction) (k : Option Kind) (vs : List Word) → sided d k [] ≡ None → sided d k vs ≡ None
sided_none (Some d) k vs e = absurd (cc e)
sided_none None (Some k) vs e = absurd (cc e)
sided_none None None vs e = refl

side_none : (w : Word) (vs : List Word) → side_or_kind_at (w ∷ []) ≡ None → side_or_kind_at (w ∷ vs) ≡ None
side_none w vs e = sided_none (direction_named w) (kind_of w) vs e

pub none_after : (w : Word) (vs : List Word) → protocol_named w ≡ None → side_or_kind_at (w ∷ []) ≡ None → qualifiers_at (w ∷ vs) ≡ None
none_after w vs none e = ap (λ o. after_protocol o w vs) none ∙ side_none w vs e

pub nothing_begins : (w : Word) (rest : List ℕ) → None ≡ protocol_named w → side_or_kind_at (w ∷ []) ≡ None → BeginsNoQualifiers w rest
nothing_begins w rest none side = record { side = side; none = λ ws e. none_after w ws (sym none) side }

no_first : (us : List Word) → take 1 us ≡ [] → us ≡ []
no_first [] e = refl
no_first (u ∷ us) e = absurd (cc e)

module _ (w : Word) (p : Protocol) (found : Some p ≡ protocol_named w) where
  after_it : (ws : List Word) → side_or_kind_at ws ≡ None → qualifiers_at (w ∷ ws) ≡ None
  after_it ws none = ap (λ o. after_protocol o w ws) (sym found) ∙ ap (option_map (with_protocol p)) none

  pub protocol_ends : (rest : List ℕ) → words rest ≡ [] → side_or_kind_at (w ∷ []) ≡ None → BeginsNoQualifiers w rest
  protocol_ends rest none side = record { side = side; none = λ ws e. after_it ws (ap side_or_kind_at (no_first ws (e ∙ ap (take 1) none))) }

  pub protocol_alone : (rest : List ℕ) (next : FirstWord) → IsFirstWord rest next → side_or_kind_at (next.bytes.now ∷ []) ≡ None → side_or_kind_at (w ∷ []) ≡ None → BeginsNoQualifiers w rest
  protocol_alone rest next is other side = record { side = side; none = nothing } where
    nothing : (ws : List Word) → take 1 ws ≡ take 1 (words rest) → qualifiers_at (w ∷ ws) ≡ None
    nothing [] e = absurd (cc (e ∙ ap (take 1) is.begins))
    nothing (v ∷ ws) e =
        let same : v ≡ next.bytes.now = cc (e ∙ ap (take 1) is.begins) in
        after_it (v ∷ ws) (subst (λ x. side_or_kind_at (x ∷ ws) ≡ None) (sym same) (side_none next.bytes.now ws other))

-- ---- more words after an identifier

pub same_pair : (g h : Qualifiers × List Word) → Some g ≡ Some h → g ≡ h
same_pair g h e = cc e

abbrev before : Qualifiers → List Word → Qualifiers × List Word
before x ws = (x, ws)

further : (h : Qualifiers × List Word) (x : Qualifiers) (id : Word) (r more : List Word) → Some h ≡ Some (x, id ∷ r) → Some (before h.0 (h.1 ++ more)) ≡ Some (before x (id ∷ (r ++ more)))
further h x id r more e = ap (λ g. Some (before g.0 (g.1 ++ more))) (same_pair h (x, id ∷ r) e)

with_more : (d : Direction) (o : Option Kind) (v : Word) (vs more : List Word) (x : Qualifiers) (id : Word) (r : List Word) → Some (side_with d o v vs) ≡ Some (x, id ∷ r)
    → Some (side_with d o v (vs ++ more)) ≡ Some (x, id ∷ (r ++ more))
with_more d (Some k) v vs more x id r e = further _ x id r more e
with_more d None v vs more x id r e = further _ x id r more e

side_some : (d : Direction) (ws : List Word) (x : Qualifiers) (id : Word) (r : List Word) → side_at d ws ≡ (x, id ∷ r) → ws ≡ [] → ⊥
side_some d [] x id r e is = let none : [] ≡ id ∷ r = ap (λ g. g.1) e in cc none
side_some d (v ∷ vs) x id r e is = cc is

side_at_more : (d : Direction) (ws more : List Word) (x : Qualifiers) (id : Word) (r : List Word) → side_at d ws ≡ (x, id ∷ r) → Some (side_at d (ws ++ more)) ≡ Some (x, id ∷ (r ++ more))
side_at_more d [] more x id r e = absurd (side_some d [] x id r e refl)
side_at_more d (v ∷ vs) more x id r e = with_more d (kind_named v) v vs more x id r (ap Some e)

-- directions that other words follow
pub from_directions : (o : Option (Direction × List Word)) (x : Qualifiers) (us : List Word) → option_map (λ f. side_at f.0 f.1) o ≡ Some (x, us)
    → (e : Direction) × (ws : List Word) × (o ≡ Some (e, ws)) × (side_at e ws ≡ (x, us))
from_directions None x us e = absurd (cc e)
from_directions (Some f) x us e = (f.0, f.1, refl, same_pair (side_at f.0 f.1) (x, us) e)

abbrev more_words : Direction → List Word → Direction × List Word
more_words d ws = (d, ws)

joined_more : (d e : Direction) (ws more : List Word) (f : Direction) (us : List Word) → joined_at d e ws ≡ Some (f, us) → joined_at d e (ws ++ more) ≡ Some (f, us ++ more)
joined_more d e [] more f us j = absurd (cc j)
joined_more d e (w ∷ ws) more f us j = here (joined_by d e w) j where
  here : (o : Option Direction) → option_map {U = Direction × List Word} (λ g. (g, ws)) o ≡ Some (f, us) → option_map {U = Direction × List Word} (λ g. (g, ws ++ more)) o ≡ Some (f, us ++ more)
  here None j = absurd (cc j)
  here (Some g) j = ap (λ x. Some (more_words x.0 (x.1 ++ more))) (same_words (g, ws) (f, us) j)

by_operator : (a b : Bool) (d : Direction) (w : Word) (ws more : List Word) (e : Direction) (us : List Word)
    → (if a then joined_at d direction.Either ws else if b then joined_at d direction.Both ws else Some (d, w ∷ ws)) ≡ Some (e, us)
    → (if a then joined_at d direction.Either (ws ++ more) else if b then joined_at d direction.Both (ws ++ more) else Some (d, w ∷ (ws ++ more))) ≡ Some (e, us ++ more)
by_operator true b d w ws more e us j = joined_more d direction.Either ws more e us j
by_operator false true d w ws more e us j = joined_more d direction.Both ws more e us j
by_operator false false d w ws more e us j = ap (λ x. Some (more_words x.0 (x.1 ++ more))) (same_words (d, w ∷ ws) (e, us) j)

directions_more : (d : Direction) (ws more : List Word) (e : Direction) (us : List Word) → directions_at d ws ≡ Some (e, us) → (us ≡ [] → ⊥) → directions_at d (ws ++ more) ≡ Some (e, us ++ more)
directions_more d [] more e us j some = absurd (some (sym (ap (λ x. x.1) (same_words (d, []) (e, us) j))))
directions_more d (w ∷ ws) more e us j some = by_operator (is_or w) (is_and w) d w ws more e us j

sided_more : (d : Option Direction) (k : Option Kind) (ws more : List Word) (x : Qualifiers) (id : Word) (r : List Word) → sided d k ws ≡ Some (x, id ∷ r)
    → sided d k (ws ++ more) ≡ Some (x, id ∷ (r ++ more))
sided_more (Some d) k ws more x id r e =
    let found = from_directions (directions_at d ws) x (id ∷ r) e in
    ap (option_map (λ f. side_at f.0 f.1)) (directions_more d ws more found.0 found.1 found.2 (side_some found.0 found.1 x id r found.3)) ∙ side_at_more found.0 found.1 more x id r found.3
sided_more None (Some k) ws more x id r e = further _ x id r more e
sided_more None None ws more x id r e = absurd (cc e)

side_more : (ws more : List Word) (x : Qualifiers) (id : Word) (r : List Word) → side_or_kind_at ws ≡ Some (x, id ∷ r) → side_or_kind_at (ws ++ more) ≡ Some (x, id ∷ (r ++ more))
side_more [] more x id r e = absurd (cc e)
side_more (w ∷ ws) more x id r e = sided_more (direction_named w) (kind_of w) ws more x id r e

pub from_map : (p : Protocol) (o : Option (Qualifiers × List Word)) (x : Qualifiers) (us : List Word) → option_map (with_protocol p) o ≡ Some (x, us)
    → (y : Qualifiers) × (o ≡ Some (y, us)) × ((with_protocol p (y, us)).0 ≡ x)
from_map p None x us e = absurd (cc e)
from_map p (Some h) x us e =
    let same = same_pair (with_protocol p h) (x, us) e in
    let rest : h.1 ≡ us = ap (λ g. g.1) same in
    (h.0, ap (λ v. Some (h.0, v)) rest, ap (λ g. g.0) same)

after_more : (o : Option Protocol) (w : Word) (ws more : List Word) (x : Qualifiers) (id : Word) (r : List Word) → after_protocol o w ws ≡ Some (x, id ∷ r)
    → after_protocol o w (ws ++ more) ≡ Some (x, id ∷ (r ++ more))
after_more None w ws more x id r e = side_more (w ∷ ws) more x id r e
after_more (Some p) w ws more x id r e =
    let found = from_map p (side_or_kind_at ws) x (id ∷ r) e in
    ap (option_map (with_protocol p)) (side_more ws more found.0 id r found.1) ∙ ap (λ y. Some (y, id ∷ (r ++ more))) found.2

pub qualifiers_more : (ws more : List Word) (x : Qualifiers) (id : Word) (r : List Word) → qualifiers_at ws ≡ Some (x, id ∷ r) → qualifiers_at (ws ++ more) ≡ Some (x, id ∷ (r ++ more))
qualifiers_more [] more x id r e = absurd (cc e)
qualifiers_more (w ∷ ws) more x id r e = after_more (protocol_named w) w ws more x id r e

-- ---- what words the qualifiers have

-- a protocol stays one
pub has_protocol : (w : Word) (ws : List Word) (p : Protocol) (x : Qualifiers) (us : List Word) → protocol_named w ≡ Some p → qualifiers_at (w ∷ ws) ≡ Some (x, us) → x.protocol ≡ Some p
has_protocol w ws p x us named e =
    let found = from_map p (side_or_kind_at ws) x us (ap (λ o. after_protocol o w ws) (sym named) ∙ e) in
    ap (λ y. y.protocol) (sym found.2)

-- ---- the direction of qualifiers

direction_with : (d : Direction) (o : Option Kind) (w : Word) (ws : List Word) → (side_with d o w ws).0.direction ≡ d
direction_with d None w ws = refl
direction_with d (Some k) w ws = refl

pub direction_of_side : (d : Direction) (ws : List Word) → (side_at d ws).0.direction ≡ d
direction_of_side d [] = refl
direction_of_side d (w ∷ ws) = direction_with d (kind_named w) w ws

kind_with : (d : Direction) (o : Option Kind) (w : Word) (ws : List Word) → (o ≡ Some kind.Protocol → ⊥) → (side_with d o w ws).0.kind ≡ kind.Protocol → ⊥
kind_with d None w ws bad e = cc e
kind_with d (Some k) w ws bad e = bad (ap Some e)

pub kind_of_side : (d : Direction) (ws : List Word) → (side_at d ws).0.kind ≡ kind.Protocol → ⊥
kind_of_side d [] e = cc e
kind_of_side d (w ∷ ws) e = kind_with d (kind_named w) w ws (kind_named_no_protocol w) e

-- the first word of qualifiers is a direction or a kind
pub first_of_side : (w : Word) → IsTrue (is_some (side_or_kind_at (w ∷ [])))
    → ((d : Direction) × (direction_named w ≡ Some d)) ⊎ ((k : Kind) × (direction_named w ≡ None) × (kind_of w ≡ Some k))
first_of_side w = here (direction_named w) (kind_of w) refl refl where
  here : (d : Option Direction) (k : Option Kind) → direction_named w ≡ d → kind_of w ≡ k → IsTrue (is_some (sided d k [])) → ((d : Direction) × (direction_named w ≡ Some d)) ⊎ ((k : Kind) × (direction_named w ≡ None) × (kind_of w ≡ Some k))
  here (Some d) k e f some = inl (d, e)
  here None (Some k) e f some = inr (k, e, f)
  here None None e f some = absurd (false≢true some)
