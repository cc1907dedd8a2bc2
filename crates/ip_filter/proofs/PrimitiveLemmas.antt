-- Primitives: what begins with a word.
use Rattle.std.specs.Prelude.{Option}
use Rattle.std.specs.Option.{option_map, option_map_or}
use Rattle.std.specs.Str.{bytes_eq}
use Rattle.std.proofs.Common.{Some, None, is_some, codes, IsTrue}
use Rattle.std.proofs.lemmas.List.{append_cancel_right}
use Rattle.ip_spec.proofs.Common.{◌≡◌, ℕ, ◌+◌, ◌-◌, ◌<◌, ◌≤◌, List, [], ◌∷◌, ◌++◌, length, take, drop, refl, sym, ap, ◌∙◌, subst, arith, Bool, true, false, not, ◌&&◌, ⊤, ◌||◌, inl, inr, if◌then◌else◌, cases_Bool, false≢true, append_assoc, append-nil}
use Rattle.ip_filter.specs.declared.words.Word.{Word as FirstWord}
use Rattle.ip_filter.specs.declared.network.Network.{Network}
use Rattle.ip_filter.specs.declared.network.Network.TheVariants as network
use Rattle.ip_filter.specs.declared.term.Ports.{Ports}
use Rattle.ip_filter.specs.declared.parse_error.Expected.{Expected}
use Rattle.ip_filter.specs.declared.parse_error.Expected.TheVariants as expects
use Rattle.ip_filter.specs.declared.term.Term.{Term}
use Rattle.ip_filter.specs.declared.term.Term.TheVariants as term
use Rattle.ip_filter.specs.declared.keyword.Keyword.{Keyword}
use Rattle.ip_filter.specs.declared.keyword.Keyword.TheVariants as keyword
use Rattle.ip_filter.specs.declared.qualifiers.Protocol.{Protocol}
use Rattle.ip_filter.specs.declared.qualifiers.Direction.{Direction}
use Rattle.ip_filter.specs.declared.qualifiers.Direction.TheVariants as direction
use Rattle.ip_filter.specs.declared.qualifiers.Kind.{Kind}
use Rattle.ip_filter.specs.declared.qualifiers.Kind.TheVariants as kind
use Rattle.ip_filter.specs.declared.qualifiers.Qualifiers.{Qualifiers}
use Rattle.ip_filter.specs.declared.qualifiers.Named.{Named}
use Rattle.ip_filter.specs.declared.qualifiers.Named.TheVariants as named
use Rattle.ip_filter.specs.declared.qualifiers.Primitive.{Primitive}
use Rattle.ip_filter.specs.declared.primitive.Head.{Head}
use Rattle.ip_filter.specs.Words.{Word, words}
use Rattle.ip_filter.specs.Numbers.{ports_of, protocol_of, IsFrontText, IsMaskText}
use Rattle.ip_filter.specs.Formula.{terms_of}
use Rattle.ip_filter.specs.Qualifiers.{protocol_named, protocol_term, multicast_term, multicast_with, direction_named, kind_of, of_any_protocol, directions_at, side_at, sided, side_or_kind_at, with_protocol, after_protocol, qualifiers_at, network_said, ports_said, protocol_said, wanted, Identifies, IsMasked, Identify, says, says_named, plain, qualified}
use Rattle.ip_filter.specs.Operators.{is_not, is_and, is_or}
use Rattle.ip_filter.specs.Grammar.{alone, keyword_of, AreArguments, is_identifier, IsQualified, IsCarried, IsPrimitive}
use Rattle.ip_filter.specs.Reading.{IsPlace, IsSuffix, IsFirstWord, ReadsTerm, RefusesTerm, WantsArgument, ends_term, begins_no_operator, EndsBefore, fewest_named, fewest_terms, BeginsNoQualifiers, RefusesDirections, IsDueInSide, BeginSide, RefusesSide, ReadsQualifiers, ReadsPrimitive, RefusesPrimitive, BeginsPrimitive, IsDueIn, LacksMask, BeginsMask}
use Rattle.ip_filter.proofs.WordLemmas.{or_cases, either_word, same_word}
use Rattle.ip_filter.proofs.PlaceLemmas.{whole, end_of_end, place_in_end, from_place}
use Rattle.ip_filter.proofs.NetworkTextLemmas.{one_network, one_network_or_front, one_front, one_mask, some_network, some_host, some_mask}
use Rattle.ip_filter.proofs.TermLemmas.{found_once}
use Rattle.ip_filter.proofs.QualifierLemmas.{no_word, later, ends_alike, direction_ends, side_without_kind, alone_at, same_pair, from_directions, from_map, qualifiers_more, has_protocol, none_after, direction_of_side, kind_of_side, first_of_side}

-- ---- words that are something

-- a protocol is a keyword
pub protocol_keyword : (w : Word) (p : Protocol) → protocol_named w ≡ Some p → keyword_of w ≡ Some (keyword.Protocol p)
protocol_keyword w p found =
    let bad = λ (v : Word) (none : protocol_named v ≡ None). no_word protocol_named p w v found none in
    let is_none : alone w ≡ None
    = grind (arith, bad (codes "fragment") refl, bad (codes "first-fragment") refl, bad (codes "later-fragment") refl, bad (codes "incomplete") refl, bad (codes "no-transport") refl, bad (codes "no-length") refl) in
    grind (arith, bad (codes "fault") refl, bad (codes "truncated") refl, bad (codes "segments-left") refl, is_none, found)

-- the words of qualifiers are bad keywords
no_direction : (w : Word) (k : Keyword) → keyword_of w ≡ Some k → direction_named w ≡ None
no_direction w k is =
    let bad = λ (v : Word) (none : keyword_of v ≡ None). no_word keyword_of k w v is none in
    grind (arith, bad (codes "src") refl, bad (codes "dst") refl)

no_kind : (w : Word) (k : Keyword) → keyword_of w ≡ Some k → kind_of w ≡ None
no_kind w k is =
    let bad = λ (v : Word) (none : keyword_of v ≡ None). no_word keyword_of k w v is none in
    grind (arith, bad (codes "proto") refl, bad (codes "host") refl, bad (codes "net") refl, bad (codes "port") refl, bad (codes "portrange") refl)

pub no_side_keyword : (w : Word) (k : Keyword) (ws : List Word) → keyword_of w ≡ Some k → side_or_kind_at (w ∷ ws) ≡ None
no_side_keyword w k ws is = ap (λ o. sided o (kind_of w) ws) (no_direction w k is) ∙ ap (λ o. sided None o ws) (no_kind w k is)

-- they don't end a term
side_goes_on : (w : Word) (ws : List Word) → IsTrue (is_some (side_or_kind_at (w ∷ []))) → IsTrue (ends_term (w ∷ ws)) → ⊥
side_goes_on w ws side e =
    let IsNone = λ (l : Word). side_or_kind_at (l ∷ []) ≡ None in
    let none : IsNone w = elim (or_cases (is_and w || is_or w) (bytes_eq w (codes ")")) e) [
      | inl a ↦ elim (or_cases (is_and w) (is_or w) a) [ inl b ↦ either_word IsNone w (codes "and") (codes "&&") b refl refl | inr b ↦ either_word IsNone w (codes "or") (codes "||") b refl refl ]
      | inr x ↦ ap (λ l. side_or_kind_at (l ∷ [])) (same_word w (codes ")") x)
    ] in
    false≢true (sym (ap is_some none) ∙ side)

starts_on : (ws : List Word) (w : Word) → IsTrue (is_some (side_or_kind_at (w ∷ []))) → IsTrue (ends_term ws) → take 1 ws ≡ w ∷ [] → ⊥
starts_on [] w side e first = cc first
starts_on (v ∷ ws) w side e first = let same : v ≡ w = cc first in side_goes_on v ws (subst (λ u. IsTrue (is_some (side_or_kind_at (u ∷ [])))) (sym same) side) e

-- nor does `multicast`
no_multicast : (p : Protocol) (w : Word) (t : Term) → multicast_with p w ≡ Some t → IsTrue (is_some (side_or_kind_at (w ∷ []))) → ⊥
no_multicast p w t found side = elim (cases_Bool (bytes_eq w (codes "multicast"))) [
  | inl is ↦ false≢true (sym (ap (λ u. is_some (side_or_kind_at (u ∷ []))) (same_word w (codes "multicast") is)) ∙ side)
  | inr f ↦ cc (sym found ∙ ap (λ b. if b then multicast_term p else None) f)
]

-- ---- identifiers

no_parts : (a b c : Bool) → (not a && not b && not c) ≡ true → (a ≡ false) × (b ≡ false) × (c ≡ false)
no_parts false false false e = (refl, refl, refl)
no_parts false false true e = absurd (false≢true e)
no_parts false true c e = absurd (false≢true e)
no_parts true b c e = absurd (false≢true e)

no_sign : (a b c d e : Bool) → (a || b || c || d || e) ≡ false → (a ≡ false) × (d ≡ false)
no_sign true b c d e f = absurd (false≢true (sym f))
no_sign false true c d e f = absurd (false≢true (sym f))
no_sign false false true d e f = absurd (false≢true (sym f))
no_sign false false false true e f = absurd (false≢true (sym f))
no_sign false false false false e f = (refl, refl)

not_some : {A : Type 0} (o : Option A) → is_some o ≡ false → o ≡ None
not_some None e = refl
not_some (Some a) e = absurd (false≢true (sym e))

module _ (w : Word) (is : IsTrue (is_identifier w)) where
  parts : (is_some (keyword_of w) ≡ false) × (is_some (side_or_kind_at (w ∷ [])) ≡ false) × ((is_not w || is_and w || is_or w || bytes_eq w (codes "(") || bytes_eq w (codes ")")) ≡ false)
  parts = no_parts (is_some (keyword_of w)) (is_some (side_or_kind_at (w ∷ []))) (is_not w || is_and w || is_or w || bytes_eq w (codes "(") || bytes_eq w (codes ")")) is

  pub identifier_no_keyword : keyword_of w ≡ None
  identifier_no_keyword = not_some (keyword_of w) parts.0

  pub identifier_no_side : side_or_kind_at (w ∷ []) ≡ None
  identifier_no_side = not_some (side_or_kind_at (w ∷ [])) parts.1

  pub identifier_no_not : is_not w ≡ false
  identifier_no_not = (no_sign (is_not w) (is_and w) (is_or w) (bytes_eq w (codes "(")) (bytes_eq w (codes ")")) parts.2).0

  pub identifier_no_open : bytes_eq w (codes "(") ≡ false
  identifier_no_open = (no_sign (is_not w) (is_and w) (is_or w) (bytes_eq w (codes "(")) (bytes_eq w (codes ")")) parts.2).1

no_protocol : (w : Word) → keyword_of w ≡ None → protocol_named w ≡ None
no_protocol w none = here (protocol_named w) refl where
  here : (o : Option Protocol) → protocol_named w ≡ o → protocol_named w ≡ None
  here None e = e
  here (Some p) e = absurd (cc (sym none ∙ protocol_keyword w p e))

-- an identifier is one
pub identified_once : (k : Kind) (d : Direction) (w : Word) (m n : Named) → Identifies k d w m → Identifies k d w n → m ≡ n
identified_once kind.Side d w m n p q = p.2 ∙ ap (network_said d) (one_network w p.0 q.0 p.1 q.1) ∙ sym q.2
identified_once kind.Network d w m n p q = p.2 ∙ ap (network_said d) (one_network_or_front w p.0 q.0 p.1 q.1) ∙ sym q.2
identified_once kind.Host d w m n p q = p.2 ∙ ap (network_said d) (one_network w p.0 q.0 p.1.0 q.1.0) ∙ sym q.2
identified_once kind.Ports d w m n p q = p.2 ∙ ap (ports_said d) (found_once ports_of w p.0 q.0 p.1 q.1) ∙ sym q.2
identified_once kind.Protocol d w m n p q = p.2 ∙ ap protocol_said (found_once protocol_of w p.0 q.0 p.1 q.1) ∙ sym q.2

one_at_least : (d : Direction) → 1 ≤ fewest_named d
one_at_least direction.Both = omega arith
one_at_least direction.Source = omega arith
one_at_least direction.Destination = omega arith
one_at_least direction.Either = omega arith

-- networks and ports say two terms of both directions
network_terms : (d : Direction) (a : Network) → terms_of (says_named (network_said d a)) ≡ fewest_named d
network_terms direction.Source a = refl
network_terms direction.Destination a = refl
network_terms direction.Either a = refl
network_terms direction.Both a = refl

ports_terms : (d : Direction) (r : Ports) → terms_of (says_named (ports_said d r)) ≡ fewest_named d
ports_terms direction.Source r = refl
ports_terms direction.Destination r = refl
ports_terms direction.Either r = refl
ports_terms direction.Both r = refl

side_terms : (k : Kind) (d : Direction) (w : Word) (m : Named) → (k ≡ kind.Protocol → ⊥) → Identifies k d w m → terms_of (says_named m) ≡ fewest_named d
side_terms kind.Side d w m bad is = ap (λ x. terms_of (says_named x)) is.2 ∙ network_terms d is.0
side_terms kind.Host d w m bad is = ap (λ x. terms_of (says_named x)) is.2 ∙ network_terms d is.0
side_terms kind.Network d w m bad is = ap (λ x. terms_of (says_named x)) is.2 ∙ network_terms d is.0
side_terms kind.Ports d w m bad is = ap (λ x. terms_of (says_named x)) is.2 ∙ ports_terms d is.0
side_terms kind.Protocol d w m bad is = absurd (bad refl)

-- a network with a mask says as many as one without
all_terms : (k : Kind) (d : Direction) (w : Word) (us : List Word) (m : Named) → (k ≡ kind.Protocol → ⊥) → Identify k d w us m → terms_of (says_named m) ≡ fewest_named d
all_terms k d w us m bad is = elim is [
  | inl one ↦ side_terms k d w m bad one.1
  | inr masked ↦ ap (λ x. terms_of (says_named x)) masked.7 ∙ network_terms d (network.Ipv4 masked.1 masked.2)
]

no_protocol_kind : (k : Kind) → k ≡ kind.Network → k ≡ kind.Protocol → ⊥
no_protocol_kind k is other = cc (sym is ∙ other)

-- a word that begins a network with a mask is one without
front_identifies : (k : Kind) (d : Direction) (w : Word) (us : List Word) (m : Named) → IsMasked k d w us m → (n : Named) × Identifies k d w n
front_identifies k d w us m is =
    (network_said d (network.Ipv4 is.1 is.5.0), subst (λ x. Identifies x d w (network_said d (network.Ipv4 is.1 is.5.0))) (sym is.3) (network.Ipv4 is.1 is.5.0, is.5.1, refl))

-- some word is an identifier, which says few terms, and no operator
pub some_identifier : (k : Kind) (d : Direction) → (w : Word) × (n : Named) × Identifies k d w n × EndsBefore d k (w ∷ []) × (terms_of (says_named n) ≤ fewest_named d) × IsTrue (begins_no_operator (w ∷ []))
unfolding some_network some_host
some_identifier kind.Side d = (some_network.0, network_said d some_network.1, (some_network.1, some_network.2, refl), (direction_ends d (some_network.0 ∷ []) refl, refl), omega (arith, network_terms d some_network.1), refl)
some_identifier kind.Network d = (some_network.0, network_said d some_network.1, (some_network.1, inl some_network.2, refl), tt, omega (arith, network_terms d some_network.1), refl)
some_identifier kind.Host d = (some_host.0, network_said d some_host.1, (some_host.1, some_host.2, refl), tt, omega (arith, network_terms d some_host.1), refl)
some_identifier kind.Ports d = (codes "0", ports_said d (record { first = 0; last = 0 }), (record { first = 0; last = 0 }, refl, refl), tt, omega (arith, ports_terms d (record { first = 0; last = 0 })), refl)
some_identifier kind.Protocol d = (codes "6", named.Term (term.LeadsTo 6), (6, refl, refl), tt, omega (arith, one_at_least d), refl)

-- ---- terms

-- an argument is expected
due_argument : (x : Option Qualifiers) (front next : List Word) (e : Expected) → WantsArgument front e → IsDueIn x front next e
due_argument x front next expects.Operand wants = absurd wants
due_argument x front next expects.FewerTerms wants = absurd wants
due_argument x front next e wants = wants

-- some primitive is one term
fragment_begins : (x : Option Qualifiers) (k : ℕ) → k < 64 → BeginsPrimitive x [] (λ p. k + terms_of (says p) ≤ 64)
fragment_begins x k few =
    (codes "fragment", [], codes "fragment" ∷ [], plain term.Fragment, inl (term.Fragment, (keyword.Alone term.Fragment, refl, (refl, refl)), refl), omega (arith, few), refl)

module _ (x : Option Qualifiers) (n : ℕ) (text : List ℕ) (w : FirstWord) (is : IsFirstWord text w) where
  module _ (k : Keyword) (known : Some k ≡ keyword_of w.bytes.now) (none : BeginsNoQualifiers w.bytes.now w.rest.now) where
    -- what begins with the keyword is a term
    term_only : (q : Primitive) (v : Word) (vs more tail : List Word) → IsPrimitive x v vs q → v ∷ (vs ++ more) ≡ w.bytes.now ∷ tail → take 1 tail ≡ take 1 (words w.rest.now)
        → (v ≡ w.bytes.now) × (vs ++ more ≡ tail) × ((u : Term) × AreArguments k vs u × (q ≡ plain u))
    term_only q v vs more tail p same first =
        let head : v ≡ w.bytes.now = cc same in
        let rest : vs ++ more ≡ tail = cc same in
        let key : keyword_of v ≡ Some k = ap keyword_of head ∙ sym known in
        elim p [
          | inl plain_term ↦
              let t = plain_term.1 in
              let one : t.0 ≡ k = cc (sym t.1 ∙ key) in
              (head, rest, (plain_term.0, subst (λ y. AreArguments y vs plain_term.0) one t.2, plain_term.2))
          | inr others ↦ elim others [
            | inl y ↦ absurd (cc (sym (qualifiers_more (v ∷ vs) more y.0 y.1 y.2 y.4) ∙ ap qualifiers_at same ∙ none.none tail first))
            | inr c ↦ absurd (cc (sym (identifier_no_keyword v c.4) ∙ key))
          ]
        ]

    first_alike : (us vs ws : List Word) → take 1 vs ≡ take 1 ws → take 1 (us ++ vs) ≡ take 1 (us ++ ws)
    first_alike [] vs ws e = e
    first_alike (u ∷ us) vs ws e = refl

    pub plain_read : (t : Term) (rest : List ℕ) → ReadsTerm k w.rest.now t rest → ReadsPrimitive x n text (plain t) rest
    plain_read t rest r = record {
      word = w.bytes.now;
      args = r.args;
      begins = is.begins ∙ ap (λ ws. w.bytes.now ∷ ws) r.begins;
      is = inl (t, (k, sym known, r.arguments), refl);
      few = λ few. omega (arith, few);
      end = end_of_end text w.rest.now is.end rest r.end;
      only = λ q v vs ws more p ends same next.
          let found = term_only q v vs more (r.args ++ ws) p same (first_alike r.args ws (words rest) next ∙ ap (take 1) (sym r.begins)) in
          let u = found.2 in
          let one = r.only u.0 vs ws more u.1 ends found.1 next in
          (found.0, one.1, u.2 ∙ ap plain one.0);
    }

    pub plain_refused : (left : ℕ) (e : Expected) → RefusesTerm k w.rest.now left e → RefusesPrimitive x n text left e
    plain_refused left e r =
        let at = from_place text w.rest.now is.end left r.place.within in
        let b = r.begins in
        record {
          front = w.bytes.now ∷ r.before;
          place = place_in_end text w.rest.now is.end (w.bytes.now ∷ []) r.before left is.begins r.place;
          begins = λ few. (w.bytes.now, r.before ++ b.1, b.1, plain b.0, inl (b.0, (k, sym known, b.2), refl), omega (arith, few), refl);
          none = λ q v vs ws more p small ends same next.
              let next_there : take 1 ws ≡ take 1 (words (drop (length w.rest.now - left) w.rest.now)) = next ∙ ap (λ s. take 1 (words s)) (sym at) in
              let found = term_only q v vs more (r.before ++ ws) p same (first_alike r.before ws (words (drop (length w.rest.now - left) w.rest.now)) next_there ∙ ap (take 1) (sym r.place.words_before)) in
              let u = found.2 in
              r.none u.0 vs ws more u.1 ends found.1 next_there;
          expected = due_argument x (w.bytes.now ∷ r.before) _ e (r.expected w.bytes.now (sym known));
        }

  -- ---- an identifier alone

  next_is : take 1 (words (drop (length text - w.left) text)) ≡ w.bytes.now ∷ []
  next_is = ap (take 1) (sym is.place.words_before ∙ is.begins)

  at_it : (v : Word) (vs more ws : List Word) → v ∷ (vs ++ more) ≡ ws → take 1 ws ≡ take 1 (words (drop (length text - w.left) text)) → v ≡ w.bytes.now
  at_it v vs more ws same next = cc (ap (take 1) same ∙ next ∙ next_is)

  -- what begins with a word that begins bad primitive of its own
  carried_only : keyword_of w.bytes.now ≡ None → ((vs : List Word) → qualifiers_at (w.bytes.now ∷ vs) ≡ None) → (q : Primitive) (v : Word) (vs : List Word) → v ≡ w.bytes.now → IsPrimitive x v vs q
      → IsCarried x w.bytes.now vs q
  carried_only none none2 q v vs same p = elim p [
    | inl t ↦ absurd (cc (sym t.1.1 ∙ ap keyword_of same ∙ none))
    | inr others ↦ elim others [
      | inl y ↦ absurd (cc (sym y.4 ∙ ap (λ u. qualifiers_at (u ∷ vs)) same ∙ none2 vs))
      | inr c ↦ subst (λ u. IsCarried x u vs q) same c
    ]
  ]

  module _ (identifier : IsTrue (is_identifier w.bytes.now)) where
    none_of_its_own : (vs : List Word) → qualifiers_at (w.bytes.now ∷ vs) ≡ None
    none_of_its_own vs = none_after w.bytes.now vs (no_protocol w.bytes.now (identifier_no_keyword w.bytes.now identifier)) (identifier_no_side w.bytes.now identifier)

    module _ (y : Qualifiers) (taken : x ≡ Some y) (m : Named) (says_it : Identifies y.kind y.direction w.bytes.now m) where
      carried_is : (q : Primitive) (vs : List Word) → IsCarried x w.bytes.now vs q → (vs ≡ []) × (q ≡ qualified y m)
      carried_is q vs c =
          let one : c.0 ≡ y = cc (sym c.2 ∙ taken) in
          let other = subst (λ z. Identifies z.kind z.direction w.bytes.now c.1) one c.5 in
          (c.3, c.6 ∙ ap (λ z. qualified z c.1) one ∙ ap (qualified y) (identified_once y.kind y.direction w.bytes.now c.1 m other says_it))

      pub carried_read : (p : Primitive) → p ≡ qualified y m → n + terms_of (says p) ≤ 64 → ReadsPrimitive x n text p w.rest.now
      carried_read p that few = record {
        word = w.bytes.now;
        args = [];
        begins = is.begins;
        is = inr (inr (y, m, taken, refl, identifier, says_it, that));
        few = λ room. few;
        end = is.end;
        only = λ q v vs ws more prim ends same next.
            let head : v ≡ w.bytes.now = cc same in
            let one = carried_is q vs (carried_only (identifier_no_keyword w.bytes.now identifier) none_of_its_own q v vs head prim) in
            (head, one.0, one.1 ∙ sym that);
      }

      pub carried_long : (p : Primitive) → p ≡ qualified y m → 64 < n + terms_of (says p) → RefusesPrimitive x n text w.left expects.FewerTerms
      carried_long p that long = record {
        front = [];
        place = is.place;
        begins = λ few. fragment_begins x n few;
        none = λ q v vs ws more prim small ends same next.
            let one = carried_is q vs (carried_only (identifier_no_keyword w.bytes.now identifier) none_of_its_own q v vs (at_it v vs more ws same next) prim) in
            omega (arith, long, small, ap (λ z. terms_of (says z)) one.1, ap (λ z. terms_of (says z)) that);
        expected = rw next_is (w.bytes.now, [], [], qualified y m, inr (inr (y, m, taken, refl, identifier, says_it, refl)), tt, refl);
      }

  pub carried_refused : keyword_of w.bytes.now ≡ None → BeginsNoQualifiers w.bytes.now w.rest.now → bytes_eq w.bytes.now (codes "(") ≡ false
      → ((vs : List Word) (q : Primitive) → IsCarried x w.bytes.now vs q → ⊥) → RefusesPrimitive x n text w.left expects.Operand
  carried_refused none none2 sign bad = record {
    front = [];
    place = is.place;
    begins = λ few. fragment_begins x n few;
    none = λ q v vs ws more prim small ends same next.
        bad vs q (carried_only none (λ us. none_after w.bytes.now us (no_protocol w.bytes.now none) none2.side) q v vs (at_it v vs more ws same next) prim);
    expected = (refl, λ e. let same : w.bytes.now ≡ codes "(" = cc (sym next_is ∙ e) in false≢true (sym sign ∙ ap (λ u. bytes_eq u (codes "(")) same));
  }

pub carried_other : (x : Option Qualifiers) (w : Word) (y : Qualifiers) → x ≡ Some y → ((m : Named) → Identifies y.kind y.direction w m → ⊥) → (vs : List Word) (q : Primitive) → IsCarried x w vs q → ⊥
carried_other x w y taken bad vs q c =
    let one : c.0 ≡ y = cc (sym c.2 ∙ taken) in bad c.1 (subst (λ z. Identifies z.kind z.direction w c.1) one c.5)

-- ---- qualifiers and an identifier

more_terms : (y : Qualifiers) (p : Protocol) (n : Named) → y.protocol ≡ Some p → terms_of (says (qualified y n)) ≡ 1 + terms_of (says_named n)
more_terms y p n e = ap (λ o. terms_of (says (qualified (record y { protocol = o }) n))) e

same_terms : (y : Qualifiers) (n : Named) → y.protocol ≡ None → terms_of (says (qualified y n)) ≡ terms_of (says_named n)
same_terms y n e = ap (λ o. terms_of (says (qualified (record y { protocol = o }) n))) e

some_terms_named : (n : Named) → 1 ≤ terms_of (says_named n)
some_terms_named (named.Term t) = omega arith
some_terms_named (named.Both t u) = omega arith
some_terms_named (named.Either t u) = omega arith

fewer_terms : (y : Qualifiers) (n : Named) → terms_of (says_named n) ≤ terms_of (says (qualified y n))
fewer_terms y n = here y.protocol refl where
  here : (o : Option Protocol) → y.protocol ≡ o → terms_of (says_named n) ≤ terms_of (says (qualified y n))
  here None e = omega (arith, same_terms y n e)
  here (Some p) e = omega (arith, more_terms y p n e)

terms_alike : (k : Kind) (d : Direction) (w : Word) (us : List Word) (m n : Named) → Identify k d w us m → Identifies k d w n → terms_of (says_named m) ≡ terms_of (says_named n)
terms_alike k d w us m n is one = elim is [
  | inl other ↦ ap (λ x. terms_of (says_named x)) (identified_once k d w m n other.1 one)
  | inr masked ↦ let no = no_protocol_kind k masked.3 in all_terms k d w us m no (inr masked) ∙ sym (side_terms k d w n no one)
]

qualified_terms : (y : Qualifiers) (m n : Named) → terms_of (says_named m) ≡ terms_of (says_named n) → terms_of (says (qualified y m)) ≡ terms_of (says (qualified y n))
qualified_terms y m n e = here y.protocol refl where
  here : (o : Option Protocol) → y.protocol ≡ o → terms_of (says (qualified y m)) ≡ terms_of (says (qualified y n))
  here None none = same_terms y m none ∙ e ∙ sym (same_terms y n none)
  here (Some p) some = more_terms y p m some ∙ ap (λ k. 1 + k) e ∙ sym (more_terms y p n some)

-- what begins with a direction or a kind is qualified
module _ (x : Option Qualifiers) (q : Primitive) (v : Word) (vs more : List Word) (prim : IsPrimitive x v vs q) where
  side_only : IsTrue (is_some (side_or_kind_at (v ∷ []))) → IsQualified (v ∷ vs) q
  side_only side = elim prim [
    | inl t ↦ absurd (false≢true (sym (ap is_some (no_side_keyword v t.1.0 [] t.1.1)) ∙ side))
    | inr others ↦ elim others [ inl y ↦ y | inr c ↦ absurd (false≢true (sym (ap is_some (identifier_no_side v c.4)) ∙ side)) ]
  ]

  -- after a protocol, too
  protocol_only : (p : Protocol) → protocol_named v ≡ Some p → IsTrue (ends_term more) → (first : Word) (tail : List Word) → IsTrue (is_some (side_or_kind_at (first ∷ []))) → vs ++ more ≡ first ∷ tail
      → IsQualified (v ∷ vs) q
  protocol_only p named ends first tail side rest =
      let known : keyword_of v ≡ Some (keyword.Protocol p) = protocol_keyword v p named in
      elim prim [
        | inl t ↦
            let one : t.1.0 ≡ keyword.Protocol p = cc (sym t.1.1 ∙ known) in
            absurd (elim (subst (λ y. AreArguments y vs t.0) one t.1.2) [
              | inl none ↦ side_goes_on first tail side (subst (λ us. IsTrue (ends_term us)) (ap (λ us. us ++ more) (sym none.0) ∙ rest) ends)
              | inr m ↦
                  let head : m.1.0 ≡ first = cc (sym (ap (λ us. us ++ more) m.1.1) ∙ rest) in
                  no_multicast p m.1.0 m.0 m.1.2 (subst (λ u. IsTrue (is_some (side_or_kind_at (u ∷ [])))) (sym head) side)
            ])
        | inr others ↦ elim others [ inl y ↦ y | inr c ↦ absurd (cc (sym (identifier_no_keyword v c.4) ∙ known)) ]
      ]

module _ (x : Option Qualifiers) (n : ℕ) (text : List ℕ) (h : Head) (r : ReadsQualifiers n text h) where
  -- what begins with the qualifiers is no term, and no identifier alone
  qualified_only : (q : Primitive) (v : Word) (vs ws more : List Word) → IsPrimitive x v vs q → IsTrue (ends_term more) → v ∷ (vs ++ more) ≡ r.word ∷ (r.front ++ ws) → IsQualified (v ∷ vs) q
  qualified_only q v vs ws more p ends same =
      let head : v ≡ r.word = cc same in
      let rest : vs ++ more ≡ r.front ++ ws = cc same in
      by_protocol h.qualifiers.protocol refl head rest where
        by_protocol : (o : Option Protocol) → h.qualifiers.protocol ≡ o → v ≡ r.word → vs ++ more ≡ r.front ++ ws → IsQualified (v ∷ vs) q
        by_protocol None e head rest = side_only x q v vs more p (subst (λ u. IsTrue (is_some (side_or_kind_at (u ∷ [])))) (sym head) (r.any e))
        by_protocol (Some o) e head rest =
            let w = r.with o e in
            protocol_only x q v vs more p o (ap protocol_named head ∙ w.3) ends w.0 (w.1 ++ ws) w.4 (rest ∙ ap (λ us. us ++ ws) w.2)

  -- it is these qualifiers and an identifier
  identifier_after : (q : Primitive) (v : Word) (vs ws more : List Word) → IsPrimitive x v vs q → IsTrue (ends_term more) → v ∷ (vs ++ more) ≡ r.word ∷ (r.front ++ ws)
      → take 1 ws ≡ take 1 (words h.rest.now)
      → (id : Word) × (us : List Word) × (m : Named) × (ws ≡ id ∷ (us ++ more)) × Identify h.qualifiers.kind h.qualifiers.direction id us m × (q ≡ qualified h.qualifiers m)
  identifier_after q v vs ws more p ends same next =
      let y = qualified_only q v vs ws more p ends same in
      let left = qualifiers_more (v ∷ vs) more y.0 y.1 y.2 y.4 in
      let right = r.at ws (ends_alike h.qualifiers.direction h.qualifiers.kind ws (words h.rest.now) next r.ends) in
      let pair = same_pair (y.0, y.1 ∷ (y.2 ++ more)) (h.qualifiers, ws) (sym left ∙ ap qualifiers_at same ∙ right) in
      let one : y.0 ≡ h.qualifiers = ap (λ g. g.0) pair in
      (y.1, y.2, y.3, sym (ap (λ g. g.1) pair), subst (λ z. Identify z.kind z.direction y.1 y.2 y.3) one y.5, y.6 ∙ ap (λ z. qualified z y.3) one)

  -- where no mask follows, the identifier is one word
  unmasked : (w : FirstWord) → LacksMask h.qualifiers.kind w → (us ws more : List Word) (m : Named) → us ++ more ≡ ws → take 1 ws ≡ take 1 (words w.rest.now)
      → Identify h.qualifiers.kind h.qualifiers.direction w.bytes.now us m → (us ≡ []) × Identifies h.qualifiers.kind h.qualifiers.direction w.bytes.now m
  unmasked w lacks us ws more m after next is = elim is [
    | inl one ↦ one
    | inr masked ↦ absurd (lacks masked.1 masked.3 masked.5 (sym next ∙ ap (take 1) (sym after) ∙ ap (λ vs. take 1 (vs ++ more)) masked.4))
  ]

  pub qualified_read : (w : FirstWord) → IsFirstWord h.rest.now w → LacksMask h.qualifiers.kind w → (m : Named) → Identifies h.qualifiers.kind h.qualifiers.direction w.bytes.now m → (p : Primitive) → p ≡ qualified h.qualifiers m
      → n + terms_of (says p) ≤ 64 → ReadsPrimitive x n text p w.rest.now
  qualified_read w is lacks m says_it p that few = record {
    word = r.word;
    args = r.front ++ (w.bytes.now ∷ []);
    begins = r.begins ∙ ap (λ ws. r.word ∷ (r.front ++ ws)) is.begins ∙ ap (λ ws. r.word ∷ ws) (sym (append_assoc r.front (w.bytes.now ∷ []) (words w.rest.now)));
    is = inr (inl (h.qualifiers, w.bytes.now, [], m, r.at (w.bytes.now ∷ []) (ends_alike h.qualifiers.direction h.qualifiers.kind (w.bytes.now ∷ []) (words h.rest.now) (ap (take 1) (sym is.begins)) r.ends), inl (refl, says_it), that));
    few = λ room. few;
    end = end_of_end text h.rest.now r.end w.rest.now is.end;
    only = λ q v vs ws more prim ends same next.
        let longer : v ∷ (vs ++ more) ≡ r.word ∷ (r.front ++ (w.bytes.now ∷ ws)) = same ∙ ap (λ us. r.word ∷ us) (append_assoc r.front (w.bytes.now ∷ []) ws) in
        let found = identifier_after q v vs (w.bytes.now ∷ ws) more prim ends longer (ap (take 1) (sym is.begins)) in
        let id : found.0 ≡ w.bytes.now = cc found.3 in
        let after : found.1 ++ more ≡ ws = cc found.3 in
        let there = subst (λ u. Identify h.qualifiers.kind h.qualifiers.direction u found.1 found.2) id found.4 in
        let alone = unmasked w lacks found.1 ws more found.2 after next there in
        let rest : more ≡ ws = ap (λ us. us ++ more) (sym alone.0) ∙ after in
        let one = identified_once h.qualifiers.kind h.qualifiers.direction w.bytes.now found.2 m alone.1 says_it in
        let tail : vs ++ more ≡ (r.front ++ (w.bytes.now ∷ [])) ++ ws = cc same in
        (cc same, append_cancel_right vs (r.front ++ (w.bytes.now ∷ [])) ws (ap (λ us. vs ++ us) (sym rest) ∙ tail), found.5 ∙ ap (qualified h.qualifiers) one ∙ sym that);
  }

  -- some identifier can follow
  some_follows : n < 64 → BeginsPrimitive x (r.word ∷ r.front) (λ p. n + terms_of (says p) ≤ 64)
  some_follows few =
      let id = some_identifier h.qualifiers.kind h.qualifiers.direction in
      (r.word, r.front ++ (id.0 ∷ []), id.0 ∷ [], qualified h.qualifiers id.1, inr (inl (h.qualifiers, id.0, [], id.1, r.at (id.0 ∷ []) id.3, inl (refl, id.2), refl)), small h.qualifiers.protocol refl id.1 id.4 (r.room few), refl) where
        small : (o : Option Protocol) → h.qualifiers.protocol ≡ o → (m : Named) → terms_of (says_named m) ≤ fewest_named h.qualifiers.direction → n + fewest_terms h.qualifiers ≤ 64
            → n + terms_of (says (qualified h.qualifiers m)) ≤ 64
        small None e m one room = omega (arith, one, room, same_terms h.qualifiers m e)
        small (Some p) e m one room = omega (arith, one, subst (λ o. n + (option_map_or (λ p. 1) o 0 + fewest_named h.qualifiers.direction) ≤ 64) e room, more_terms h.qualifiers p m e)

  -- bad identifier that the text has there can follow
  module _ (left : ℕ) (place : IsPlace h.rest.now [] left)
      (bad : (id : Word) (us : List Word) (m : Named) → take 1 (words h.rest.now) ≡ id ∷ [] → Identify h.qualifiers.kind h.qualifiers.direction id us m → n + terms_of (says (qualified h.qualifiers m)) ≤ 64 → ⊥) where
    pub identifier_refused : (e : Expected) → IsDueIn x (r.word ∷ r.front) (take 1 (words h.rest.now)) e → RefusesPrimitive x n text left e
    identifier_refused e due =
        let at : words h.rest.now ≡ words (drop (length text - left) text) = place.words_before ∙ ap words (from_place text h.rest.now r.end left place.within) in
        record {
          front = r.word ∷ r.front;
          place = subst (λ us. IsPlace text us left) (nothing_after (r.word ∷ r.front)) (place_in_end text h.rest.now r.end (r.word ∷ r.front) [] left r.begins place);
          begins = λ few. some_follows few;
          none = λ q v vs ws more prim small ends same next.
              let found = identifier_after q v vs ws more prim ends same (next ∙ ap (take 1) (sym at)) in
              bad found.0 found.1 found.2 (ap (take 1) at ∙ sym next ∙ ap (take 1) found.3) found.4 (subst (λ z. n + terms_of (says z) ≤ 64) found.5 small);
          expected = subst (λ us. IsDueIn x (r.word ∷ r.front) (take 1 us) e) at due;
        } where
          nothing_after : (us : List Word) → us ++ [] ≡ us
          nothing_after [] = refl
          nothing_after (u ∷ us) = ap (λ vs. u ∷ vs) (nothing_after us)

  pub identifier_missing : (left : ℕ) (e : Expected) → (words h.rest.now ≡ []) × IsPlace h.rest.now [] left × (e ≡ wanted h.qualifiers.kind) → RefusesPrimitive x n text left e
  identifier_missing left e a =
      identifier_refused left a.1 (λ id us m next says_it few. cc (sym next ∙ ap (take 1) a.0)) e
      (due_argument x (r.word ∷ r.front) _ e (subst (WantsArgument (r.word ∷ r.front)) (sym a.2) r.wants))

  pub other_identifier : (w : FirstWord) → IsFirstWord h.rest.now w → ((m : Named) → Identifies h.qualifiers.kind h.qualifiers.direction w.bytes.now m → ⊥)
      → RefusesPrimitive x n text w.left (wanted h.qualifiers.kind)
  other_identifier w is bad =
      identifier_refused w.left is.place
      (λ id us m next says_it few.
      let same : id ≡ w.bytes.now = cc (sym next ∙ ap (take 1) is.begins) in
      elim (subst (λ u. Identify h.qualifiers.kind h.qualifiers.direction u us m) same says_it) [
        | inl one ↦ bad m one.1
        | inr masked ↦ let front = front_identifies h.qualifiers.kind h.qualifiers.direction w.bytes.now us m masked in bad front.0 front.1
      ])
      (wanted h.qualifiers.kind) (due_argument x (r.word ∷ r.front) _ (wanted h.qualifiers.kind) r.wants)

  pub long_identifier : (w : FirstWord) → IsFirstWord h.rest.now w → (m : Named) → Identifies h.qualifiers.kind h.qualifiers.direction w.bytes.now m → (p : Primitive) → p ≡ qualified h.qualifiers m
      → 64 < n + terms_of (says p) → RefusesPrimitive x n text w.left expects.FewerTerms
  long_identifier w is m says_it p that long =
      let first : take 1 (words h.rest.now) ≡ w.bytes.now ∷ [] = ap (take 1) is.begins in
      identifier_refused w.left is.place
      (λ id us o next other few.
      let same : id ≡ w.bytes.now = cc (sym next ∙ first) in
      let one = terms_alike h.qualifiers.kind h.qualifiers.direction w.bytes.now us o m (subst (λ u. Identify h.qualifiers.kind h.qualifiers.direction u us o) same other) says_it in
      omega (arith, long, few, qualified_terms h.qualifiers o m one, ap (λ z. terms_of (says z)) that))
      expects.FewerTerms (rw first (
        r.word,
        r.front ++ (w.bytes.now ∷ []),
        [],
        qualified h.qualifiers m,
        inr (inl (h.qualifiers, w.bytes.now, [], m, r.at (w.bytes.now ∷ []) (ends_alike h.qualifiers.direction h.qualifiers.kind (w.bytes.now ∷ []) (words h.rest.now) (sym first) r.ends), inl (refl, says_it), refl)),
        tt,
        sym (append-nil ((r.word ∷ r.front) ++ (w.bytes.now ∷ []))),
      ))

-- ---- a mask

module _ (x : Option Qualifiers) (n : ℕ) (text : List ℕ) (h : Head) (r : ReadsQualifiers n text h) (a : ℕ) (rest : List ℕ) (b : BeginsMask h a rest) where
  -- the words before the mask
  abbrev before_mask : List Word
  before_mask = r.front ++ (b.address.bytes.now ∷ codes "mask" ∷ [])

  mask_begins : words h.rest.now ≡ b.address.bytes.now ∷ codes "mask" ∷ words rest
  mask_begins = b.first.begins ∙ ap (λ ws. b.address.bytes.now ∷ ws) (b.second.begins ∙ ap (λ w. w ∷ words b.mask.rest.now) b.is_mask ∙ ap (λ s. codes "mask" ∷ words s) (sym b.after))

  before_begins : words text ≡ (r.word ∷ before_mask) ++ words rest
  before_begins = r.begins ∙ ap (λ ws. r.word ∷ (r.front ++ ws)) mask_begins ∙ ap (λ ws. r.word ∷ ws) (sym (append_assoc r.front (b.address.bytes.now ∷ codes "mask" ∷ []) (words rest)))

  mask_end : IsSuffix text rest
  mask_end = subst (IsSuffix text) (sym b.after) (end_of_end text h.rest.now r.end b.mask.rest.now (end_of_end h.rest.now b.address.rest.now b.first.end b.mask.rest.now b.second.end))

  -- what begins with the address and `mask` is a network with a mask
  mask_only : (q : Primitive) (v : Word) (vs ws more : List Word) → IsPrimitive x v vs q → IsTrue (ends_term more) → v ∷ (vs ++ more) ≡ (r.word ∷ before_mask) ++ ws
      → (m : Word) × (len : ℕ) × (ws ≡ m ∷ more) × IsMaskText m len × (q ≡ qualified h.qualifiers (network_said h.qualifiers.direction (network.Ipv4 a len)))
  mask_only q v vs ws more prim ends same =
      let longer : v ∷ (vs ++ more) ≡ r.word ∷ (r.front ++ (b.address.bytes.now ∷ codes "mask" ∷ ws)) = same ∙ ap (λ us. r.word ∷ us) (append_assoc r.front (b.address.bytes.now ∷ codes "mask" ∷ []) ws) in
      let found = identifier_after x n text h r q v vs (b.address.bytes.now ∷ codes "mask" ∷ ws) more prim ends longer (ap (take 1) (sym mask_begins)) in
      let id : found.0 ≡ b.address.bytes.now = cc found.3 in
      let after : found.1 ++ more ≡ codes "mask" ∷ ws = cc found.3 in
      elim found.4 [
        | inl one ↦ absurd (false≢true (subst (λ us. IsTrue (ends_term us)) (ap (λ us. us ++ more) (sym one.0) ∙ after) ends))
        | inr masked ↦
            let there : codes "mask" ∷ masked.0 ∷ more ≡ codes "mask" ∷ ws = ap (λ us. us ++ more) (sym masked.4) ∙ after in
            let front = one_front b.address.bytes.now masked.1 a (subst (λ u. IsFrontText u masked.1) id masked.5) b.front in
            (masked.0, masked.2, cc there, masked.6, found.5 ∙ ap (qualified h.qualifiers) (masked.7 ∙ ap (λ k. network_said h.qualifiers.direction (network.Ipv4 k masked.2)) front))
      ]

  -- the words of a network with this mask are one
  mask_is : (m : Word) (len : ℕ) → IsMaskText m len → IsPrimitive x r.word (before_mask ++ (m ∷ [])) (qualified h.qualifiers (network_said h.qualifiers.direction (network.Ipv4 a len)))
  mask_is m len is =
      let there : qualifiers_at (r.word ∷ (r.front ++ (b.address.bytes.now ∷ codes "mask" ∷ m ∷ []))) ≡ Some (h.qualifiers, b.address.bytes.now ∷ codes "mask" ∷ m ∷ [])
      = r.at (b.address.bytes.now ∷ codes "mask" ∷ m ∷ []) (ends_alike h.qualifiers.direction h.qualifiers.kind (b.address.bytes.now ∷ codes "mask" ∷ m ∷ []) (words h.rest.now) (ap (take 1) (sym mask_begins)) r.ends) in
      let words_there : r.word ∷ (before_mask ++ (m ∷ [])) ≡ r.word ∷ (r.front ++ (b.address.bytes.now ∷ codes "mask" ∷ m ∷ [])) = ap (λ us. r.word ∷ us) (append_assoc r.front (b.address.bytes.now ∷ codes "mask" ∷ []) (m ∷ [])) in
      inr (inl (h.qualifiers, b.address.bytes.now, codes "mask" ∷ m ∷ [], network_said h.qualifiers.direction (network.Ipv4 a len), ap qualifiers_at words_there ∙ there, inr (m, a, len, b.network, refl, b.front, is, refl), refl))

  -- there is room for it
  mask_fits : (len : ℕ) → n < 64 → n + terms_of (says (qualified h.qualifiers (network_said h.qualifiers.direction (network.Ipv4 a len)))) ≤ 64
  mask_fits len few = here h.qualifiers.protocol refl (r.room few) where
    here : (o : Option Protocol) → h.qualifiers.protocol ≡ o → n + fewest_terms h.qualifiers ≤ 64 → n + terms_of (says (qualified h.qualifiers (network_said h.qualifiers.direction (network.Ipv4 a len)))) ≤ 64
    here None e room = omega (arith, room, network_terms h.qualifiers.direction (network.Ipv4 a len), same_terms h.qualifiers (network_said h.qualifiers.direction (network.Ipv4 a len)) e)
    here (Some p) e room =
        omega (
          arith,
          network_terms h.qualifiers.direction (network.Ipv4 a len),
          subst (λ o. n + (option_map_or (λ p. 1) o 0 + fewest_named h.qualifiers.direction) ≤ 64) e room,
          more_terms h.qualifiers p (network_said h.qualifiers.direction (network.Ipv4 a len)) e,
        )

  pub mask_read : (w : FirstWord) → IsFirstWord rest w → (len : ℕ) → IsMaskText w.bytes.now len → (p : Primitive) → p ≡ qualified h.qualifiers (network_said h.qualifiers.direction (network.Ipv4 a len)) → ReadsPrimitive x n text p w.rest.now
  mask_read w is len says_it p that = record {
    word = r.word;
    args = before_mask ++ (w.bytes.now ∷ []);
    begins = before_begins ∙ ap (λ ws. r.word ∷ (before_mask ++ ws)) is.begins ∙ ap (λ ws. r.word ∷ ws) (sym (append_assoc before_mask (w.bytes.now ∷ []) (words w.rest.now)));
    is = subst (IsPrimitive x r.word (before_mask ++ (w.bytes.now ∷ []))) (sym that) (mask_is w.bytes.now len says_it);
    few = λ room. subst (λ z. n + terms_of (says z) ≤ 64) (sym that) (mask_fits len room);
    end = end_of_end text rest mask_end w.rest.now is.end;
    only = λ q v vs ws more prim ends same next.
        let longer : v ∷ (vs ++ more) ≡ (r.word ∷ before_mask) ++ (w.bytes.now ∷ ws) = same ∙ ap (λ us. r.word ∷ us) (append_assoc before_mask (w.bytes.now ∷ []) ws) in
        let found = mask_only q v vs (w.bytes.now ∷ ws) more prim ends longer in
        let mask : found.0 ≡ w.bytes.now = cc found.2 in
        let after : more ≡ ws = cc found.2 in
        let one = one_mask w.bytes.now found.1 len (subst (λ u. IsMaskText u found.1) mask found.3) says_it in
        let tail : vs ++ more ≡ (before_mask ++ (w.bytes.now ∷ [])) ++ ws = cc same in (
          cc same,
          append_cancel_right vs (before_mask ++ (w.bytes.now ∷ [])) ws (ap (λ us. vs ++ us) (sym after) ∙ tail),
          found.4 ∙ ap (λ k. qualified h.qualifiers (network_said h.qualifiers.direction (network.Ipv4 a k))) one ∙ sym that,
        );
  }

  mask_refused : (left : ℕ) → IsPlace rest [] left → ((m : Word) (len : ℕ) → take 1 (words rest) ≡ m ∷ [] → IsMaskText m len → ⊥) → RefusesPrimitive x n text left expects.Mask
  mask_refused left place bad =
      let at : words rest ≡ words (drop (length text - left) text) = place.words_before ∙ ap words (from_place text rest mask_end left place.within) in
      record {
        front = r.word ∷ before_mask;
        place = subst (λ us. IsPlace text us left) (append-nil (r.word ∷ before_mask)) (place_in_end text rest mask_end (r.word ∷ before_mask) [] left before_begins place);
        begins = λ few. (
          r.word,
          before_mask ++ (some_mask.0 ∷ []),
          some_mask.0 ∷ [],
          qualified h.qualifiers (network_said h.qualifiers.direction (network.Ipv4 a some_mask.1)),
          mask_is some_mask.0 some_mask.1 some_mask.2,
          mask_fits some_mask.1 few,
          refl,
        );
        none = λ q v vs ws more prim small ends same next.
            let found = mask_only q v vs ws more prim ends same in
            bad found.0 found.1 (ap (take 1) at ∙ sym next ∙ ap (take 1) found.2) found.3;
        expected = (r.word ∷ (r.front ++ (b.address.bytes.now ∷ [])), codes "mask", ap (λ us. r.word ∷ us) (sym (append_assoc r.front (b.address.bytes.now ∷ []) (codes "mask" ∷ []))), refl);
      }

  pub mask_missing : (left : ℕ) (e : Expected) → (words rest ≡ []) × IsPlace rest [] left × (e ≡ expects.Mask) → RefusesPrimitive x n text left e
  mask_missing left e m = subst (RefusesPrimitive x n text left) (sym m.2) (mask_refused left m.1 (λ w len next is. cc (sym next ∙ ap (take 1) m.0)))

  pub other_mask : (w : FirstWord) → IsFirstWord rest w → ((len : ℕ) → IsMaskText w.bytes.now len → ⊥) → RefusesPrimitive x n text w.left expects.Mask
  other_mask w is bad = mask_refused w.left is.place (λ m len next says_it. let same : m ≡ w.bytes.now = cc (sym next ∙ ap (take 1) is.begins) in bad len (subst (λ u. IsMaskText u len) same says_it))

-- ---- where no qualifiers go on

-- Around qualifiers of any protocol: the words `pre` before them, and what those make of them.
record IsAround (pre : List Word) (c : ℕ) (around : Qualifiers → Qualifiers) (first : Word) : Type 0 where
  kind : (y : Qualifiers) → (around y).kind ≡ y.kind
  direction : (y : Qualifiers) → (around y).direction ≡ y.direction
  terms : (y : Qualifiers) (m : Named) → y.protocol ≡ None → terms_of (says (qualified (around y) m)) ≡ c + terms_of (says_named m)
  some_terms : (y : Qualifiers) (m : Named) → c + terms_of (says_named m) ≤ terms_of (says (qualified (around y) m))
  there : (us : List Word) (y : Qualifiers) (vs : List Word) → side_or_kind_at (first ∷ us) ≡ Some (y, vs) → qualifiers_at (pre ++ first ∷ us) ≡ Some (around y, vs)
  back : (us : List Word) (z : Qualifiers) (vs : List Word) → qualifiers_at (pre ++ first ∷ us) ≡ Some (z, vs) → (y : Qualifiers) × (side_or_kind_at (first ∷ us) ≡ Some (y, vs)) × (z ≡ around y)
  only : (x : Option Qualifiers) (q : Primitive) (v : Word) (vs more us : List Word) → IsPrimitive x v vs q → IsTrue (ends_term more) → v ∷ (vs ++ more) ≡ pre ++ first ∷ us → IsQualified (v ∷ vs) q
  word : Word
  args : List Word → List Word
  split : (us : List Word) → pre ++ first ∷ us ≡ word ∷ args us

side_no_protocol : (w : Word) → IsTrue (is_some (side_or_kind_at (w ∷ []))) → protocol_named w ≡ None
side_no_protocol w side = here (protocol_named w) refl where
  here : (o : Option Protocol) → protocol_named w ≡ o → protocol_named w ≡ None
  here None e = e
  here (Some p) e = absurd (false≢true (sym (ap is_some (no_side_keyword w (keyword.Protocol p) [] (protocol_keyword w p e))) ∙ side))

nothing_around : (first : Word) → IsTrue (is_some (side_or_kind_at (first ∷ []))) → IsAround [] 0 (λ y. y) first
nothing_around first side =
    let none = side_no_protocol first side in
    record {
      kind = λ y. refl;
      direction = λ y. refl;
      terms = λ y m e. omega (arith, same_terms y m e);
      some_terms = λ y m. omega (arith, fewer_terms y m);
      there = λ us y vs e. ap (λ o. after_protocol o first us) none ∙ e;
      back = λ us z vs e. (z, ap (λ o. after_protocol o first us) (sym none) ∙ e, refl);
      only = λ x q v vs more us prim ends same. let head : v ≡ first = cc same in side_only x q v vs more prim (subst (λ u. IsTrue (is_some (side_or_kind_at (u ∷ [])))) (sym head) side);
      word = first;
      args = λ us. us;
      split = λ us. refl;
    }

abbrev of_protocol : Protocol → Qualifiers → Qualifiers
of_protocol p y = record { protocol = Some p; direction = y.direction; kind = y.kind }

protocol_around : (w : Word) (p : Protocol) → protocol_named w ≡ Some p → (first : Word) → IsTrue (is_some (side_or_kind_at (first ∷ []))) → IsAround (w ∷ []) 1 (of_protocol p) first
protocol_around w p named first side = record {
  kind = λ y. refl;
  direction = λ y. refl;
  terms = λ y m e. more_terms (of_protocol p y) p m refl;
  some_terms = λ y m. omega (arith, more_terms (of_protocol p y) p m refl);
  there = λ us y vs e. ap (λ o. after_protocol o w (first ∷ us)) named ∙ ap (option_map (with_protocol p)) e;
  back = λ us z vs e. let found = from_map p (side_or_kind_at (first ∷ us)) z vs (ap (λ o. after_protocol o w (first ∷ us)) (sym named) ∙ e) in (found.0, found.1, sym found.2);
  only = λ x q v vs more us prim ends same.
      let head : v ≡ w = cc same in
      let rest : vs ++ more ≡ first ∷ us = cc same in
      protocol_only x q v vs more prim p (ap protocol_named head ∙ named) ends first us side rest;
  word = w;
  args = λ us. first ∷ us;
  split = λ us. refl;
}

module _ (pre : List Word) (c : ℕ) (around : Qualifiers → Qualifiers) (first : Word) (a : IsAround pre c around first) (x : Option Qualifiers) where
  begin_primitive : (Is : Primitive → Type 0) (ws rest : List Word) (y : Qualifiers) (id : Word) (m : Named) → side_or_kind_at (first ∷ (ws ++ rest)) ≡ Some (y, id ∷ []) → Identifies y.kind y.direction id m
      → Is (qualified (around y) m) → BeginsPrimitive x (pre ++ first ∷ ws) Is
  begin_primitive Is ws rest y id m e is holds =
      let there : qualifiers_at (a.word ∷ a.args (ws ++ rest)) ≡ Some (around y, id ∷ []) = ap qualifiers_at (sym (a.split (ws ++ rest))) ∙ a.there (ws ++ rest) y (id ∷ []) e in
      let identifies = subst (λ d. Identifies (around y).kind d id m) (sym (a.direction y)) (subst (λ k. Identifies k y.direction id m) (sym (a.kind y)) is) in
      (a.word, a.args (ws ++ rest), rest, qualified (around y) m, inr (inl (around y, id, [], m, there, inl (refl, identifies), refl)), holds, sym (a.split (ws ++ rest)) ∙ sym (append_assoc pre (first ∷ ws) rest))

module _ (x : Option Qualifiers) (n c k : ℕ) (text rest : List ℕ) (e : IsSuffix text rest) (pre : List Word) (before : words text ≡ pre ++ words rest) (around : Qualifiers → Qualifiers) (left : ℕ) (wanted : Expected)
    (r : RefusesSide k rest left wanted) (a : IsAround pre c around r.first) (counts : k ≡ c + n) (fits : n < 64 → k < 64) where
  at_place : drop (length rest - left) rest ≡ drop (length text - left) text
  at_place = from_place text rest e left r.place.within

  longer : (q : Primitive) (v : Word) (vs ws more : List Word) → IsPrimitive x v vs q → n + terms_of (says q) ≤ 64 → IsTrue (ends_term more) → v ∷ (vs ++ more) ≡ (pre ++ r.first ∷ r.front) ++ ws
      → take 1 ws ≡ take 1 (words (drop (length text - left) text)) → ⊥
  longer q v vs ws more prim small ends same next =
      let all : v ∷ (vs ++ more) ≡ pre ++ r.first ∷ (r.front ++ ws) = same ∙ append_assoc pre (r.first ∷ r.front) ws in
      let y = a.only x q v vs more (r.front ++ ws) prim ends all in
      let b = a.back (r.front ++ ws) y.0 (y.1 ∷ (y.2 ++ more)) (sym (ap qualifiers_at all) ∙ qualifiers_more (v ∷ vs) more y.0 y.1 y.2 y.4) in
      let identifies = subst (λ k. Identify k b.0.direction y.1 y.2 y.3) (a.kind b.0) (subst (λ d. Identify (around b.0).kind d y.1 y.2 y.3) (a.direction b.0) (subst (λ z. Identify z.kind z.direction y.1 y.2 y.3) b.2 y.5)) in
      let long = r.none ws y.2 more b.0 y.1 y.3 (next ∙ ap (λ s. take 1 (words s)) (sym at_place)) b.1 identifies in
      omega (arith, long, small, counts, ap (λ z. terms_of (says z)) y.6, ap (λ z. terms_of (says (qualified z y.3))) b.2, a.some_terms b.0 y.3)

  due : (next : List Word) → IsDueInSide (r.first ∷ r.front) wanted (BeginSide (r.first ∷ (r.front ++ next)) (λ m. ⊤)) → IsDueIn x (pre ++ r.first ∷ r.front) next wanted
  due next d = elim d [
    | inl wants ↦ due_argument x (pre ++ r.first ∷ r.front) next wanted (later wanted pre (r.first ∷ r.front) wants)
    | inr long ↦
        let b = long.1 in
        let begins = begin_primitive pre c around r.first a x (λ p. ⊤) (r.front ++ next) b.0 b.1 b.2 b.3 b.4 b.5 tt in
        subst (IsDueIn x (pre ++ r.first ∷ r.front) next) (sym long.0) (subst (λ ws. BeginsPrimitive x ws (λ p. ⊤)) (sym (append_assoc pre (r.first ∷ r.front) next)) begins)
  ]

  refused_around : RefusesPrimitive x n text left wanted
  refused_around = record {
    front = pre ++ r.first ∷ r.front;
    place = place_in_end text rest e pre (r.first ∷ r.front) left before r.place;
    begins = λ few. let b = r.begins (fits few) in
        begin_primitive pre c around r.first a x (λ p. n + terms_of (says p) ≤ 64) r.front b.0 b.1 b.2 b.3 b.4 b.5 (let small = b.7 in omega (arith, small, counts, a.terms b.1 b.3 b.6));
    none = longer;
    expected = due (take 1 (words (drop (length text - left) text))) (subst (λ s. IsDueInSide (r.first ∷ r.front) wanted (BeginSide (r.first ∷ (r.front ++ take 1 (words s))) (λ m. ⊤))) at_place r.expected);
  }

pub side_refused : (x : Option Qualifiers) (n : ℕ) (text : List ℕ) (left : ℕ) (e : Expected) → RefusesSide n text left e → RefusesPrimitive x n text left e
side_refused x n text left e r = refused_around x n 0 n text text (whole text) [] refl (λ y. y) left e r (nothing_around r.first r.some) (omega arith) (λ few. few)

module _ (x : Option Qualifiers) (n : ℕ) (text : List ℕ) (w : FirstWord) (is : IsFirstWord text w) (p : Protocol) (named : Some p ≡ protocol_named w.bytes.now) where
  pub protocol_refused : (k left : ℕ) (e : Expected) → k ≡ n + 1 → n < 63 → RefusesSide k w.rest.now left e → RefusesPrimitive x n text left e
  protocol_refused k left e counts fewer r =
      refused_around x n 1 k text w.rest.now is.end (w.bytes.now ∷ []) is.begins (of_protocol p) left e r (protocol_around w.bytes.now p (sym named) r.first r.some) (omega (arith, counts)) (λ few. omega (arith, counts, fewer))

  -- after 63 terms nothing follows a protocol but what may follow a term
  module _ (next : FirstWord) (after : IsFirstWord w.rest.now next) (side : IsTrue (is_some (side_or_kind_at (next.bytes.now ∷ [])))) (many : 63 ≤ n) where
    next_there : take 1 (words (drop (length text - next.left) text)) ≡ next.bytes.now ∷ []
    next_there = ap (λ s. take 1 (words s)) (sym (from_place text w.rest.now is.end next.left after.place.within)) ∙ ap (take 1) (sym after.place.words_before ∙ after.begins)

    too_long : (q : Primitive) (v : Word) (vs ws more : List Word) → IsPrimitive x v vs q → n + terms_of (says q) ≤ 64 → IsTrue (ends_term more) → v ∷ (vs ++ more) ≡ w.bytes.now ∷ ws → take 1 ws ≡ next.bytes.now ∷ [] → ⊥
    too_long q v vs [] more prim small ends same e = cc e
    too_long q v vs (u ∷ us) more prim small ends same e =
        let head : v ≡ w.bytes.now = cc same in
        let rest : vs ++ more ≡ u ∷ us = cc same in
        let first : u ≡ next.bytes.now = cc e in
        let named_there : protocol_named v ≡ Some p = ap protocol_named head ∙ sym named in
        let y = protocol_only x q v vs more prim p named_there ends u us (subst (λ l. IsTrue (is_some (side_or_kind_at (l ∷ [])))) (sym first) side) rest in
        let two = more_terms y.0 p y.3 (has_protocol v vs p y.0 (y.1 ∷ y.2) named_there y.4) in
        omega (arith, many, small, two, some_terms_named y.3, ap (λ z. terms_of (says z)) y.6)

    begins_long : BeginsPrimitive x (w.bytes.now ∷ next.bytes.now ∷ []) (λ p. ⊤)
    begins_long = elim (first_of_side next.bytes.now side) [
      | inl d ↦
          let id = some_identifier kind.Side d.0 in
          from (of_any_protocol d.0 kind.Side) id.0 id.1
          (ap (λ o. sided o (kind_of next.bytes.now) (id.0 ∷ [])) d.1 ∙ ap (option_map (λ f. side_at f.0 f.1)) (alone_at d.0 (id.0 ∷ []) id.5) ∙ ap Some (side_without_kind d.0 (id.0 ∷ []) id.3.1)) id.2
      | inr k ↦
          let id = some_identifier k.0 direction.Either in
          from (of_any_protocol direction.Either k.0) id.0 id.1 (ap (λ o. sided o (kind_of next.bytes.now) (id.0 ∷ [])) k.1 ∙ ap (λ o. sided None o (id.0 ∷ [])) k.2) id.2
    ] where
      from : (y : Qualifiers) (id : Word) (m : Named) → side_or_kind_at (next.bytes.now ∷ id ∷ []) ≡ Some (y, id ∷ []) → Identifies y.kind y.direction id m → BeginsPrimitive x (w.bytes.now ∷ next.bytes.now ∷ []) (λ p. ⊤)
      from y id m e identifies = begin_primitive (w.bytes.now ∷ []) 1 (of_protocol p) next.bytes.now (protocol_around w.bytes.now p (sym named) next.bytes.now side) x (λ p. ⊤) [] (id ∷ []) y id m e identifies tt

    pub protocol_full : RefusesPrimitive x n text next.left expects.FewerTerms
    protocol_full = record {
      front = w.bytes.now ∷ [];
      place = place_in_end text w.rest.now is.end (w.bytes.now ∷ []) [] next.left is.begins after.place;
      begins = λ few. (w.bytes.now, [], [], plain (protocol_term p), inl (protocol_term p, (keyword.Protocol p, protocol_keyword w.bytes.now p (sym named), inl (refl, refl)), refl), omega (arith, few), refl);
      none = λ q v vs ws more prim small ends same e. too_long q v vs ws more prim small ends same (e ∙ next_there);
      expected = rw next_there begins_long;
    }

-- ---- where directions don't go on

module _ (n : ℕ) (text : List ℕ) (w : FirstWord) (is : IsFirstWord text w) (d : Direction) (named : Some d ≡ direction_named w.bytes.now) where
  by_directions : (ws : List Word) → side_or_kind_at (w.bytes.now ∷ ws) ≡ option_map (λ f. side_at f.0 f.1) (directions_at d ws)
  by_directions ws = ap (λ o. sided o (kind_of w.bytes.now) ws) (sym named)

  begin_side : (Is : Named → Type 0) (ws more : List Word) (f : Direction) → ((us : List Word) → directions_at d (ws ++ (more ++ us)) ≡ Some (f, us))
      → ((m : Named) → terms_of (says_named m) ≤ fewest_named f → Is m) → BeginSide (w.bytes.now ∷ ws) Is
  begin_side Is ws more f e holds =
      let id = some_identifier kind.Side f in (
        more ++ (id.0 ∷ []),
        of_any_protocol f kind.Side,
        id.0,
        id.1,
        by_directions (ws ++ (more ++ (id.0 ∷ []))) ∙ ap (option_map (λ f. side_at f.0 f.1)) (e (id.0 ∷ [])) ∙ ap Some (side_without_kind f (id.0 ∷ []) id.3.1),
        id.2,
        refl,
        holds id.1 id.4,
      )

  pub directions_refused : (left : ℕ) (e : Expected) → RefusesDirections w.bytes.now d n w.rest.now left e → RefusesSide n text left e
  directions_refused left e r =
      let at = from_place text w.rest.now is.end left r.place.within in
      record {
        first = w.bytes.now;
        front = r.front;
        place = place_in_end text w.rest.now is.end (w.bytes.now ∷ []) r.front left is.begins r.place;
        some = ap (λ o. is_some (sided o (kind_of w.bytes.now) [])) (sym named);
        begins = λ few. let b = r.begins few in let room = b.3 in begin_side (λ m. n + terms_of (says_named m) ≤ 64) r.front b.0 b.1 b.2 (λ m small. omega (arith, room, small));
        none = λ ws us more x id m next there identifies.
            let f = from_directions (directions_at d (r.front ++ ws)) x (id ∷ (us ++ more)) (sym (by_directions (r.front ++ ws)) ∙ there) in
            let long = r.none ws f.1 f.0 (next ∙ ap (λ s. take 1 (words s)) (sym at)) f.2 in
            let both_sides : x.direction ≡ direction.Both = ap (λ g. g.0.direction) (sym f.3) ∙ direction_of_side f.0 f.1 ∙ long.0 in
            let two = all_terms x.kind x.direction id us m (λ p. kind_of_side f.0 f.1 (ap (λ g. g.0.kind) f.3 ∙ p)) identifies in
            let many = long.1 in
            omega (arith, many, two, ap fewest_named both_sides);
        expected = elim r.expected [
          | inl wants ↦ inl wants
          | inr b ↦ inr (b.0, subst (λ s. BeginSide (w.bytes.now ∷ (r.front ++ take 1 (words s))) (λ m. ⊤)) at (begin_side (λ m. ⊤) _ b.1.0 b.1.1 b.1.2 (λ m small. tt)))
        ];
      }
