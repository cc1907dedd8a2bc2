-- The grammar of filters: which words are a term, and how words are joined to formulas.
use Rattle.std.specs.Prelude.{◌≡◌, ◌≤◌, ◌+◌, ◌⊎◌, ℕ, suc, List, [], ◌∷◌, ◌++◌, max, Bool, not, ◌&&◌, ◌||◌, Option, Some, None, is_some, IsTrue, codes, if◌then◌else◌}
use Rattle.std.specs.Option.{option_map, option_or, option_and_then}
use Rattle.std.specs.Str.{bytes_eq}
use Rattle.ip_base.specs.declared.err.layer.Layer.{Layer}
use Rattle.ip_filter.specs.declared.term.FaultKind.{FaultKind}
use Rattle.ip_filter.specs.declared.term.Comparison.{Comparison}
use Rattle.ip_filter.specs.declared.term.Comparison.TheVariants as by
use Rattle.ip_filter.specs.declared.term.Quantity.{Quantity}
use Rattle.ip_filter.specs.declared.term.Quantity.TheVariants as quantity
use Rattle.ip_filter.specs.declared.term.Term.{Term}
use Rattle.ip_filter.specs.declared.term.Term.TheVariants as term
use Rattle.ip_filter.specs.declared.keyword.Keyword.{Keyword}
use Rattle.ip_filter.specs.declared.keyword.Keyword.TheVariants as keyword
use Rattle.ip_filter.specs.declared.keyword.NumberKeyword.{NumberKeyword}
use Rattle.ip_filter.specs.declared.keyword.NumberKeyword.TheVariants as number
use Rattle.ip_filter.specs.declared.qualifiers.Qualifiers.{Qualifiers}
use Rattle.ip_filter.specs.declared.qualifiers.Named.{Named}
use Rattle.ip_filter.specs.declared.qualifiers.Primitive.{Primitive}
use Rattle.ip_filter.specs.declared.layers.LayerError.{LayerError}
use Rattle.ip_filter.specs.declared.layers.LayerError.TheVariants as error
use Rattle.ip_filter.specs.Layers.{can_have}
use Rattle.ip_filter.specs.Words.{Word}
use Rattle.ip_filter.specs.Operators.{is_not, is_and, is_or}
use Rattle.ip_filter.specs.Numbers.{version_named, header_named, protocol_of, number_up_to, tcp_flags_of, comparison_of, fault_kind_of, layer_named}
use Rattle.ip_filter.specs.IcmpTypes.{icmp_type_of, icmp6_type_of}
use Rattle.ip_filter.specs.AccessWords.{access_of, AreComparedBits}
use Rattle.ip_filter.specs.Formula.{Formula, negation, both, either, terms_of}
use Rattle.ip_filter.specs.Qualifiers.{protocol_term, multicast_with, protocol_named, side_or_kind_at, qualifiers_at, Identifies, Identify, says, plain, qualified}

-- ---- keywords

-- the term that a word is by itself
abbrev pub alone : Word → Option Term
alone w =
    if bytes_eq w (codes "fragment") then Some term.Fragment
    else if bytes_eq w (codes "first-fragment") then Some term.FirstFragment
    else if bytes_eq w (codes "later-fragment") then Some term.LaterFragment
    else if bytes_eq w (codes "incomplete") then Some term.Incomplete
    else if bytes_eq w (codes "no-transport") then Some term.NoTransport
    else if bytes_eq w (codes "no-length") then Some term.NoLength
    else if bytes_eq w (codes "arp") then Some term.Arp
    else if bytes_eq w (codes "mismatched") then Some term.Mismatched
    else None

abbrev pub quantity_named : Word → Option Quantity
quantity_named w =
    if bytes_eq w (codes "headers") then Some quantity.Headers
    else if bytes_eq w (codes "chain-bytes") then Some quantity.ChainBytes
    else if bytes_eq w (codes "payload") then Some quantity.Payload
    else if bytes_eq w (codes "length") then Some quantity.Length
    else if bytes_eq w (codes "hop-limit") || bytes_eq w (codes "ttl") then Some quantity.HopLimit
    else if bytes_eq w (codes "dscp") then Some quantity.Dscp
    else if bytes_eq w (codes "ecn") then Some quantity.Ecn
    else if bytes_eq w (codes "flow") then Some quantity.FlowLabel
    else None

-- a keyword that a type or code of ICMP follows
abbrev pub icmp_keyword_of : Word → Option NumberKeyword
icmp_keyword_of w =
    if bytes_eq w (codes "icmp-type") then Some number.IcmpType
    else if bytes_eq w (codes "icmp-code") then Some number.IcmpCode
    else if bytes_eq w (codes "icmp6-type") then Some number.Icmp6Type
    else if bytes_eq w (codes "icmp6-code") then Some number.Icmp6Code
    else None

-- a keyword that a number or a name follows
abbrev pub number_keyword_of : Word → Option NumberKeyword
number_keyword_of w =
    if bytes_eq w (codes "version") then Some number.Version
    else if bytes_eq w (codes "header") then Some number.Header
    else if bytes_eq w (codes "leads-to") then Some number.LeadsTo
    else if bytes_eq w (codes "spi") then Some number.SecurityParameters
    else if bytes_eq w (codes "id") then Some number.Identification
    else if bytes_eq w (codes "routing-type") then Some number.RoutingType
    else if bytes_eq w (codes "option") then Some number.Option
    else if bytes_eq w (codes "tcp-flags") then Some number.TcpFlags
    else if bytes_eq w (codes "less") then Some number.Less
    else if bytes_eq w (codes "greater") then Some number.Greater
    else icmp_keyword_of w

abbrev pub keyword_of : Word → Option Keyword
keyword_of w =
    if bytes_eq w (codes "fault") then Some keyword.Fault
    else if bytes_eq w (codes "truncated") then Some keyword.Truncated
    else if bytes_eq w (codes "segments-left") then Some keyword.SegmentsLeft
    else if bytes_eq w (codes "vlan") then Some keyword.Vlan
    else option_or (option_map keyword.Alone (alone w))
    (option_or (option_map keyword.Protocol (protocol_named w))
    (option_or (option_map keyword.Compared (quantity_named w))
    (option_or (option_map keyword.Number (number_keyword_of w)) (option_map keyword.Access (access_of w)))))

-- ---- terms

-- one word, which writes this value
abbrev pub IsOne : {A : Type 0} → (Word → A → Type 0) → List Word → A → Type 0
IsOne Writes args a = (w : Word) × (args ≡ w ∷ []) × Writes w a

-- the value that the function finds in a word
abbrev pub Finds : {A : Type 0} → (Word → Option A) → Word → A → Type 0
Finds find w a = find w ≡ Some a

-- a comparison and a number of 64 bits
abbrev pub AreCompared : List Word → Comparison × ℕ → Type 0
AreCompared args c =
    (o : Word) × (w : Word) × (args ≡ o ∷ w ∷ []) × (comparison_of o ≡ Some c.0) × (number_up_to 18446744073709551615 w ≡ Some c.1)

-- the layer of a header that has this error, or `IPv6-extension`, which stands for several
abbrev pub layer_with : LayerError → Word → Option Layer
layer_with e w = option_and_then (λ l. if can_have e l then Some l else None) (layer_named w)

-- a kind of fault and a layer that can have it
abbrev pub AreFaultAt : List Word → FaultKind × Layer → Type 0
AreFaultAt args f = (w : Word) × (v : Word) × (args ≡ w ∷ v ∷ []) × (fault_kind_of w ≡ Some f.0) × (layer_with (error.Fault f.0) v ≡ Some f.1)

-- the words write a value, of which t is made
abbrev pub Make : {A : Type 0} → (List Word → A → Type 0) → (A → Term) → List Word → Term → Type 0
Make {A} Write make args t = (a : A) × Write args a × (t ≡ make a)

-- the words after a keyword, which write the term t with it
abbrev pub AreNumberArguments : NumberKeyword → List Word → Term → Type 0
AreNumberArguments number.Version args t = Make (IsOne (Finds version_named)) term.Version args t
AreNumberArguments number.Header args t = Make (IsOne (Finds header_named)) term.Header args t
AreNumberArguments number.LeadsTo args t = Make (IsOne (Finds protocol_of)) term.LeadsTo args t
AreNumberArguments number.SecurityParameters args t = Make (IsOne (Finds (number_up_to 4294967295))) term.SecurityParameters args t
AreNumberArguments number.Identification args t = Make (IsOne (Finds (number_up_to 4294967295))) term.Identification args t
AreNumberArguments number.RoutingType args t = Make (IsOne (Finds (number_up_to 255))) term.RoutingType args t
AreNumberArguments number.Option args t = Make (IsOne (Finds (number_up_to 255))) term.Option args t
AreNumberArguments number.IcmpType args t = Make (IsOne (Finds icmp_type_of)) term.IcmpType args t
AreNumberArguments number.IcmpCode args t = Make (IsOne (Finds (number_up_to 255))) term.IcmpCode args t
AreNumberArguments number.Icmp6Type args t = Make (IsOne (Finds icmp6_type_of)) term.Icmp6Type args t
AreNumberArguments number.Icmp6Code args t = Make (IsOne (Finds (number_up_to 255))) term.Icmp6Code args t
AreNumberArguments number.TcpFlags args t = Make (IsOne (Finds tcp_flags_of)) term.TcpFlags args t
-- as in libpcap, both include the length itself
AreNumberArguments number.Less args t = Make (IsOne (Finds (number_up_to 4294967295))) (term.WireLength by.AtMost) args t
AreNumberArguments number.Greater args t = Make (IsOne (Finds (number_up_to 4294967295))) (term.WireLength by.AtLeast) args t

abbrev pub AreArguments : Keyword → List Word → Term → Type 0
AreArguments (keyword.Alone u) args t = (args ≡ []) × (t ≡ u)
AreArguments (keyword.Protocol p) args t = ((args ≡ []) × (t ≡ protocol_term p)) ⊎ Make (IsOne (Finds (multicast_with p))) (λ u. u) args t
AreArguments keyword.Truncated args t = ((args ≡ []) × (t ≡ term.Truncated)) ⊎ Make (IsOne (Finds (layer_with error.Truncated))) term.TruncatedAt args t
AreArguments keyword.Fault args t =
    ((args ≡ []) × (t ≡ term.Fault))
    ⊎ (Make (IsOne (Finds fault_kind_of)) term.FaultOf args t ⊎ Make AreFaultAt (λ f. term.FaultAt f.0 f.1) args t)
AreArguments (keyword.Number k) args t = AreNumberArguments k args t
AreArguments (keyword.Compared q) args t = Make AreCompared (λ c. term.Compared q c.0 c.1) args t
AreArguments keyword.SegmentsLeft args t = Make AreCompared (λ c. term.SegmentsLeft c.0 c.1) args t
AreArguments (keyword.Access a) args t = Make AreComparedBits (term.Access a) args t
AreArguments keyword.Vlan args t = ((args ≡ []) × (t ≡ term.Vlan)) ⊎ Make (IsOne (Finds (number_up_to 4095))) term.VlanOf args t

-- the word w is a keyword, and writes the term t with the words after it
abbrev pub IsTerm : Word → List Word → Term → Type 0
IsTerm w args t = (k : Keyword) × (keyword_of w ≡ Some k) × AreArguments k args t

-- ---- primitives

-- a word that neither begins a primitive nor joins or groups operands
abbrev pub is_identifier : Word → Bool
is_identifier w =
    not (is_some (keyword_of w)) && not (is_some (side_or_kind_at (w ∷ [])))
    && not (is_not w || is_and w || is_or w || bytes_eq w (codes "(") || bytes_eq w (codes ")"))

-- qualifiers and an identifier
abbrev pub IsQualified : List Word → Primitive → Type 0
IsQualified ws p =
    (x : Qualifiers) × (w : Word) × (vs : List Word) × (n : Named) × (qualifiers_at ws ≡ Some (x, w ∷ vs)) × Identify x.kind x.direction w vs n
    × (p ≡ qualified x n)

-- an identifier alone, which takes the qualifiers of the primitive before it
abbrev pub IsCarried : Option Qualifiers → Word → List Word → Primitive → Type 0
IsCarried before w args p =
    (x : Qualifiers) × (n : Named) × (before ≡ Some x) × (args ≡ []) × IsTrue (is_identifier w) × Identifies x.kind x.direction w n × (p ≡ qualified x n)

-- After a primitive with the qualifiers `before`, the word w and those after it are the primitive p.
abbrev pub IsPrimitive : Option Qualifiers → Word → List Word → Primitive → Type 0
IsPrimitive before w args p =
    ((t : Term) × IsTerm w args t × (p ≡ plain t)) ⊎ (IsQualified (w ∷ args) p ⊎ IsCarried before w args p)

-- ---- filters

-- A filter is a disjunction of conjunctions of operands, so `not` binds most tightly, then `and`.
mutual
  pub data Operand : Type 0 where
    a_primitive : Word → List Word → Primitive → Operand
    a_negation : Word → Operand → Operand
    a_group : Disjunction → Operand

  pub data Conjunction : Type 0 where
    an_operand : Operand → Conjunction
    an_and : Conjunction → Word → Operand → Conjunction

  pub data Disjunction : Type 0 where
    a_conjunction : Conjunction → Disjunction
    an_or : Disjunction → Word → Conjunction → Disjunction

-- its words
abbrev mutual
  pub operand_words : Operand → List Word
  operand_words (a_primitive w args p) = w ∷ args
  operand_words (a_negation w u) = w ∷ operand_words u
  operand_words (a_group d) = codes "(" ∷ (filter_words d ++ (codes ")" ∷ []))

  pub conjunction_words : Conjunction → List Word
  conjunction_words (an_operand u) = operand_words u
  conjunction_words (an_and c w u) = conjunction_words c ++ (w ∷ operand_words u)

  pub filter_words : Disjunction → List Word
  filter_words (a_conjunction c) = conjunction_words c
  filter_words (an_or d w c) = filter_words d ++ (w ∷ conjunction_words c)

-- the qualifiers of the last primitive
abbrev mutual
  pub operand_leaves : Operand → Option Qualifiers
  operand_leaves (a_primitive w args p) = p.leaves
  operand_leaves (a_negation w u) = operand_leaves u
  operand_leaves (a_group d) = leaves_of d

  pub conjunction_leaves : Conjunction → Option Qualifiers
  conjunction_leaves (an_operand u) = operand_leaves u
  conjunction_leaves (an_and c w u) = operand_leaves u

  pub leaves_of : Disjunction → Option Qualifiers
  leaves_of (a_conjunction c) = conjunction_leaves c
  leaves_of (an_or d w c) = conjunction_leaves c

-- After a primitive with the qualifiers `before`, each word means what it stands for.
abbrev mutual
  pub IsOperand : Option Qualifiers → Operand → Type 0
  IsOperand before (a_primitive w args p) = IsPrimitive before w args p
  IsOperand before (a_negation w u) = IsTrue (is_not w) × IsOperand before u
  IsOperand before (a_group d) = IsDisjunction before d

  pub IsConjunction : Option Qualifiers → Conjunction → Type 0
  IsConjunction before (an_operand u) = IsOperand before u
  IsConjunction before (an_and c w u) = IsConjunction before c × IsTrue (is_and w) × IsOperand (conjunction_leaves c) u

  pub IsDisjunction : Option Qualifiers → Disjunction → Type 0
  IsDisjunction before (a_conjunction c) = IsConjunction before c
  IsDisjunction before (an_or d w c) = IsDisjunction before d × IsTrue (is_or w) × IsConjunction (leaves_of d) c

-- the formula that it writes
abbrev mutual
  pub operand_formula : Operand → Formula
  operand_formula (a_primitive w args p) = says p
  operand_formula (a_negation w u) = negation (operand_formula u)
  operand_formula (a_group d) = formula_of d

  pub conjunction_formula : Conjunction → Formula
  conjunction_formula (an_operand u) = operand_formula u
  conjunction_formula (an_and c w u) = both (conjunction_formula c) (operand_formula u)

  pub formula_of : Disjunction → Formula
  formula_of (a_conjunction c) = conjunction_formula c
  formula_of (an_or d w c) = either (formula_of d) (conjunction_formula c)

-- how many terms it has
abbrev mutual
  pub operand_terms : Operand → ℕ
  operand_terms (a_primitive w args p) = terms_of (says p)
  operand_terms (a_negation w u) = operand_terms u
  operand_terms (a_group d) = terms_in d

  pub conjunction_terms : Conjunction → ℕ
  conjunction_terms (an_operand u) = operand_terms u
  conjunction_terms (an_and c w u) = conjunction_terms c + operand_terms u

  pub terms_in : Disjunction → ℕ
  terms_in (a_conjunction c) = conjunction_terms c
  terms_in (an_or d w c) = terms_in d + conjunction_terms c

-- how deeply its parentheses are nested
abbrev mutual
  pub operand_depth : Operand → ℕ
  operand_depth (a_primitive w args p) = 0
  operand_depth (a_negation w u) = operand_depth u
  operand_depth (a_group d) = suc (depth_of d)

  pub conjunction_depth : Conjunction → ℕ
  conjunction_depth (an_operand u) = operand_depth u
  conjunction_depth (an_and c w u) = max (conjunction_depth c) (operand_depth u)

  pub depth_of : Disjunction → ℕ
  depth_of (a_conjunction c) = conjunction_depth c
  depth_of (an_or d w c) = max (depth_of d) (conjunction_depth c)

-- d is a filter: each word means what it stands for, and there are at most 64 terms and 16 levels of parentheses
pub record IsFilter (d : Disjunction) : Type 0 where
  pub spelled : IsDisjunction None d
  pub terms : terms_in d ≤ 64
  pub depth : depth_of d ≤ 16
