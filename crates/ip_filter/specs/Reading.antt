-- What is read of a text, and where it is refused.
use Rattle.std.specs.Prelude.{◌≡◌, ◌≤◌, ◌<◌, ◌+◌, ◌-◌, ◌⊎◌, ℕ, List, [], ◌∷◌, ◌++◌, length, take, drop, slice_index, Bool, true, false, not, ◌||◌, Option, Some, None, is_some, IsTrue, codes, ⊤}
use Rattle.std.specs.Option.{option_map_or}
use Rattle.std.specs.Str.{bytes_eq}
use Rattle.ip_filter.specs.declared.words.Word.{Word as FirstWord}
use Rattle.ip_filter.specs.declared.term.AccessedBytes.{AccessedBytes}
use Rattle.ip_filter.specs.declared.term.Quantity.{Quantity}
use Rattle.ip_filter.specs.declared.term.Term.{Term}
use Rattle.ip_filter.specs.declared.keyword.Keyword.{Keyword}
use Rattle.ip_filter.specs.declared.keyword.Keyword.TheVariants as keyword
use Rattle.ip_filter.specs.declared.keyword.NumberKeyword.TheVariants as number
use Rattle.ip_filter.specs.declared.qualifiers.Protocol.{Protocol}
use Rattle.ip_filter.specs.declared.qualifiers.Direction.{Direction}
use Rattle.ip_filter.specs.declared.qualifiers.Direction.TheVariants as direction
use Rattle.ip_filter.specs.declared.qualifiers.Kind.{Kind}
use Rattle.ip_filter.specs.declared.qualifiers.Kind.TheVariants as kind
use Rattle.ip_filter.specs.declared.qualifiers.Qualifiers.{Qualifiers}
use Rattle.ip_filter.specs.declared.qualifiers.Named.{Named}
use Rattle.ip_filter.specs.declared.qualifiers.Primitive.{Primitive}
use Rattle.ip_filter.specs.declared.primitive.Head.{Head}
use Rattle.ip_filter.specs.declared.parse_error.Expected.{Expected}
use Rattle.ip_filter.specs.declared.parse_error.Expected.TheVariants as expects
use Rattle.ip_filter.specs.Words.{Word, words, is_white_space}
use Rattle.ip_filter.specs.Numbers.{comparison_of, IsFrontText}
use Rattle.ip_filter.specs.AccessWords.{bits_of, ends_joined_bits, AreBits}
use Rattle.ip_filter.specs.Formula.{terms_of}
use Rattle.ip_filter.specs.Qualifiers.{protocol_named, direction_named, kind_named, kind_of, of_any_protocol, directions_at, side_at, side_or_kind_at, qualifiers_at, wanted, Identifies, Identify, says, says_named}
use Rattle.ip_filter.specs.Operators.{is_and, is_or}
use Rattle.ip_filter.specs.Grammar.{keyword_of, AreArguments, IsPrimitive}

-- ---- what follows a keyword

abbrev pub IsKeyword : Keyword → Word → Type 0
IsKeyword k w = keyword_of w ≡ Some k

-- a comparison and a number follow
abbrev pub IsCountKeyword : Word → Type 0
IsCountKeyword w = ((q : Quantity) × IsKeyword (keyword.Compared q) w) ⊎ IsKeyword keyword.SegmentsLeft w

-- a length on the wire follows
abbrev pub IsWireKeyword : Word → Type 0
IsWireKeyword w = IsKeyword (keyword.Number number.Less) w ⊎ IsKeyword (keyword.Number number.Greater) w

-- a number of 32 bits follows
abbrev pub IsNumberKeyword : Word → Type 0
IsNumberKeyword w =
    IsKeyword (keyword.Number number.SecurityParameters) w ⊎ (IsKeyword (keyword.Number number.Identification) w
    ⊎ IsWireKeyword w)

-- a code of ICMP or ICMPv6 follows
abbrev pub IsCodeKeyword : Word → Type 0
IsCodeKeyword w = IsKeyword (keyword.Number number.IcmpCode) w ⊎ IsKeyword (keyword.Number number.Icmp6Code) w

-- a number of 8 bits follows: a type of routing, a type of option, or a code of ICMP
abbrev pub IsByteKeyword : Word → Type 0
IsByteKeyword w =
    IsKeyword (keyword.Number number.RoutingType) w ⊎ (IsKeyword (keyword.Number number.Option) w
    ⊎ IsCodeKeyword w)

-- the identifier after the word is of this kind
abbrev pub IsKind : Kind → Word → Type 0
IsKind k w = kind_of w ≡ Some k

-- the last of the words is one of these
abbrev pub LastIs : (Word → Type 0) → List Word → Type 0
LastIs Is ws = (front : List Word) × (w : Word) × (ws ≡ front ++ w ∷ []) × Is w

-- the last of the words are this one and `and` or `or`
abbrev pub AreJoining : Word → List Word → Type 0
AreJoining side ws = (front : List Word) × (w : Word) × (ws ≡ front ++ side ∷ w ∷ []) × IsTrue (is_and w || is_or w)

-- the last of the words are a keyword that a comparison and a number follow, and a comparison
abbrev pub AreCounting : List Word → Type 0
AreCounting ws = (front : List Word) × (k : Word) × (w : Word) × (ws ≡ front ++ k ∷ w ∷ []) × IsCountKeyword k × IsTrue (is_some (comparison_of w))

-- an access begins with the word
abbrev pub IsAccess : Word → Type 0
IsAccess w = (a : AccessedBytes) × IsKeyword (keyword.Access a) w

-- the last of the words are the first one of an access, `&` and a mask
abbrev pub EndMask : List Word → Type 0
EndMask ws = (front : List Word) × (w : Word) × (mask : List Word) × (n : ℕ) × (ws ≡ front ++ w ∷ codes "&" ∷ mask) × IsAccess w × AreBits mask n

-- The last of the words wants bits of an access: `&` a mask, and a comparison those that are compared with.
abbrev pub WantBits : List Word → Type 0
WantBits ws =
    LastIs (λ w. w ≡ codes "&") ws
    ⊎ ((front : List Word) × (w : Word) × (ws ≡ front ++ w ∷ []) × IsTrue (is_some (comparison_of w)) × (LastIs IsAccess front ⊎ EndMask front))

-- the last of the words wants bits in parentheses: the opening one, or `|`
abbrev pub WantJoinedBits : List Word → Type 0
WantJoinedBits ws = ((front : List Word) × (ws ≡ front ++ codes "(" ∷ []) × WantBits front) ⊎ LastIs (λ w. w ≡ codes "|") ws

-- the last of the words is one of the bits in parentheses
abbrev pub EndJoinedBits : List Word → Type 0
EndJoinedBits ws = (front : List Word) × (w : Word) × (ws ≡ front ++ w ∷ []) × IsTrue (is_some (bits_of w)) × WantJoinedBits front

-- the last of the words wants this argument
abbrev pub WantsArgument : List Word → Expected → Type 0
WantsArgument ws expects.Version = LastIs (IsKeyword (keyword.Number number.Version)) ws
WantsArgument ws expects.Header = LastIs (IsKeyword (keyword.Number number.Header)) ws
WantsArgument ws expects.Protocol = LastIs (λ w. IsKeyword (keyword.Number number.LeadsTo) w ⊎ IsKind kind.Protocol w) ws
WantsArgument ws expects.Number = LastIs IsNumberKeyword ws
WantsArgument ws expects.Byte = LastIs IsByteKeyword ws
WantsArgument ws expects.IcmpType = LastIs (IsKeyword (keyword.Number number.IcmpType)) ws
WantsArgument ws expects.Icmp6Type = LastIs (IsKeyword (keyword.Number number.Icmp6Type)) ws
WantsArgument ws expects.Comparison = LastIs IsCountKeyword ws ⊎ EndMask ws
WantsArgument ws expects.Count = AreCounting ws
WantsArgument ws expects.Network = LastIs (IsKind kind.Network) ws
WantsArgument ws expects.Mask = LastIs (λ w. w ≡ codes "mask") ws
WantsArgument ws expects.Address = LastIs (IsKind kind.Host) ws
WantsArgument ws expects.NetworkOrPort = LastIs (λ w. IsTrue (is_some (direction_named w))) ws
WantsArgument ws expects.Source = AreJoining (codes "dst") ws
WantsArgument ws expects.Destination = AreJoining (codes "src") ws
WantsArgument ws expects.Ports = LastIs (IsKind kind.Ports) ws
WantsArgument ws expects.TcpFlags = LastIs (IsKeyword (keyword.Number number.TcpFlags)) ws
WantsArgument ws expects.MaskOrComparison = LastIs IsAccess ws
WantsArgument ws expects.Bits = WantBits ws
WantsArgument ws expects.JoinedBits = WantJoinedBits ws
WantsArgument ws expects.JoinedBitsEnd = EndJoinedBits ws
WantsArgument ws e = ⊥

-- `and` or `or`
abbrev pub IsOperator : List Word → Type 0
IsOperator ws = (w : Word) × (ws ≡ w ∷ []) × IsTrue (is_and w || is_or w)

-- ---- what is read

-- `rest` is the end of the text
abbrev pub IsSuffix : List ℕ → List ℕ → Type 0
IsSuffix text rest = (length rest ≤ length text) × (rest ≡ drop (length text - length rest) text)

-- A word begins `left` bytes before the end of the text, or the text ends there. The words `before` precede it.
pub record IsPlace (text : List ℕ) (before : List Word) (left : ℕ) : Type 0 where
  pub within : left ≤ length text
  pub words_before : words text ≡ before ++ words (drop (length text - left) text)
  pub begins : 0 < left → is_white_space (slice_index text (length text - left)) ≡ false

-- w is the first word of the text.
pub record IsFirstWord (text : List ℕ) (w : FirstWord) : Type 0 where
  pub begins : words text ≡ w.bytes.now ∷ words w.rest.now
  pub place : IsPlace text [] w.left
  pub end : IsSuffix text w.rest.now

-- The text begins with a word that writes a, and `rest` follows it.
pub record ReadsArgument {A : Type 0} (Writes : Word → A → Type 0) (text : List ℕ) (a : A) (rest : List ℕ) : Type 0 where
  pub word : Word
  pub begins : words text ≡ word ∷ words rest
  pub writes : Writes word a
  pub end : IsSuffix text rest

-- The text has no first word, or it writes nothing. It begins `left` bytes before the end.
pub record RefusesArgument {A : Type 0} (Writes : Word → A → Type 0) (text : List ℕ) (left : ℕ) : Type 0 where
  pub place : IsPlace text [] left
  pub none : (w : Word) (a : A) → take 1 (words text) ≡ w ∷ [] → Writes w a → ⊥

-- The text has no first word in which `find` finds a value.
abbrev pub BeginsOtherwise : {A : Type 0} → (Word → Option A) → List ℕ → Type 0
BeginsOtherwise find text = (w : Word) → take 1 (words text) ≡ w ∷ [] → find w ≡ None

-- The text begins with words that write a, and `rest` follows them. Words that write something and begin like these, up
-- to the word after them, are these.
pub record ReadsArguments {A : Type 0} (Writes : List Word → A → Type 0) (text : List ℕ) (a : A) (rest : List ℕ) : Type 0 where
  pub args : List Word
  pub begins : words text ≡ args ++ words rest
  pub writes : Writes args a
  pub end : IsSuffix text rest
  pub only : (b : A) (us ws more : List Word) → Writes us b → us ++ more ≡ args ++ ws → (b ≡ a) × (us ≡ args)

-- No words that write something begin like those of the text, up to that at the place `left`, or end there. Some begin
-- with the words before that place. After such a keyword, e is expected there.
pub record RefusesArguments {A : Type 0} (Writes : List Word → A → Type 0) (Is : Word → Type 0) (text : List ℕ) (left : ℕ) (e : Expected) : Type 0 where
  pub before : List Word
  pub place : IsPlace text before left
  pub begins : (b : A) × (ws : List Word) × Writes (before ++ ws) b
  pub expected : (w : Word) → Is w → WantsArgument (w ∷ before) e
  pub none : (b : A) (us ws more : List Word) → Writes us b → us ++ more ≡ before ++ ws
      → take 1 ws ≡ take 1 (words (drop (length text - left) text)) → ⊥

-- The text begins with words in which `find` finds a, whatever follows them, and `rest` follows them.
pub record ReadsAt {A : Type 0} (find : List Word → Option (A × List Word)) (text : List ℕ) (a : A) (rest : List ℕ) : Type 0 where
  pub front : List Word
  pub begins : words text ≡ front ++ words rest
  pub at : (ws : List Word) → find (front ++ ws) ≡ Some (a, ws)
  pub end : IsSuffix text rest

-- In words that begin like those of the text, up to that at the place `left`, or end there, `find` finds nothing. It does in some
-- that begin with the words before that place, whatever follows. After words of this kind and those, e is expected there.
pub record RefusesAt {A : Type 0} (find : List Word → Option (A × List Word)) (After : List Word → Type 0) (text : List ℕ) (left : ℕ) (e : Expected) : Type 0 where
  pub front : List Word
  pub place : IsPlace text front left
  pub begins : (a : A) × (ws : List Word) × ((more : List Word) → find (front ++ (ws ++ more)) ≡ Some (a, more))
  pub expected : (us : List Word) → After us → WantsArgument (us ++ front) e
  pub none : (ws : List Word) → take 1 ws ≡ take 1 (words (drop (length text - left) text)) → find (front ++ ws) ≡ None

-- After `&`, with which the text begins, `rest` follows.
pub record BeginsAnd (text rest : List ℕ) : Type 0 where
  pub sign : FirstWord
  pub first : IsFirstWord text sign
  pub is_and : sign.bytes.now ≡ codes "&"
  pub after : rest ≡ sign.rest.now

-- The text begins with one of several bits, n, and a word after it, which ends them or doesn't, and `rest` follows them.
pub record ReadsJoined (text : List ℕ) (n : ℕ) (ends : Bool) (rest : List ℕ) : Type 0 where
  pub word : Word
  pub sign : Word
  pub begins : words text ≡ word ∷ sign ∷ words rest
  pub bits : bits_of word ≡ Some n
  pub goes_on : ends_joined_bits sign ≡ Some ends
  pub end : IsSuffix text rest

-- what may follow a term: nothing, `and`, `or` or `)`
abbrev pub ends_term : List Word → Bool
ends_term [] = true
ends_term (w ∷ ws) = is_and w || is_or w || bytes_eq w (codes ")")

-- After the keyword k, the text begins with the arguments of the term, and `rest` follows them. No other term has the
-- keyword and these words, whatever follows the next one.
pub record ReadsTerm (k : Keyword) (text : List ℕ) (t : Term) (rest : List ℕ) : Type 0 where
  pub args : List Word
  pub begins : words text ≡ args ++ words rest
  pub arguments : AreArguments k args t
  pub end : IsSuffix text rest
  pub only : (u : Term) (us ws more : List Word) → AreArguments k us u → IsTrue (ends_term more)
      → us ++ more ≡ args ++ ws → take 1 ws ≡ take 1 (words rest) → (u ≡ t) × (us ≡ args)

-- No term has the keyword k and the first words of the text, up to that at the place `left`, or none there. Some term has
-- the keyword and begins with the words before that place, after which e is expected.
pub record RefusesTerm (k : Keyword) (text : List ℕ) (left : ℕ) (e : Expected) : Type 0 where
  pub before : List Word
  pub place : IsPlace text before left
  pub begins : (t : Term) × (ws : List Word) × AreArguments k (before ++ ws) t
  pub expected : (w : Word) → IsKeyword k w → WantsArgument (w ∷ before) e
  pub none : (u : Term) (us ws more : List Word) → AreArguments k us u → IsTrue (ends_term more)
      → us ++ more ≡ before ++ ws → take 1 ws ≡ take 1 (words (drop (length text - left) text)) → ⊥

-- ---- primitives

-- no word says here what an identifier is
abbrev pub begins_no_kind : List Word → Bool
begins_no_kind [] = true
begins_no_kind (w ∷ ws) = not (is_some (kind_named w))

-- no operator follows
abbrev pub begins_no_operator : List Word → Bool
begins_no_operator [] = true
begins_no_operator (w ∷ ws) = not (is_or w || is_and w)

-- the direction ends before the words: after `src` or `dst` alone an operator would go on with it
abbrev pub EndsDirection : Direction → List Word → Type 0
EndsDirection direction.Either ws = ⊤
EndsDirection direction.Both ws = ⊤
EndsDirection d ws = IsTrue (begins_no_operator ws)

-- qualifiers of this direction and kind end before the words
abbrev pub EndsBefore : Direction → Kind → List Word → Type 0
EndsBefore d kind.Side ws = EndsDirection d ws × IsTrue (begins_no_kind ws)
EndsBefore d k ws = ⊤

-- how few terms an identifier can be, and a primitive
abbrev pub fewest_named : Direction → ℕ
fewest_named direction.Both = 2
fewest_named d = 1

abbrev pub fewest_terms : Qualifiers → ℕ
fewest_terms x = option_map_or (λ p. 1) x.protocol 0 + fewest_named x.direction

-- The word w begins no qualifiers, nor does a protocol with what follows it.
pub record BeginsNoQualifiers (w : Word) (rest : List ℕ) : Type 0 where
  pub side : side_or_kind_at (w ∷ []) ≡ None
  pub none : (ws : List Word) → take 1 ws ≡ take 1 (words rest) → qualifiers_at (w ∷ ws) ≡ None

-- After `first`, which is the direction d, the text begins with words that make it the direction e, or with none, and `rest`
-- follows them. After n terms there is room for it.
pub record ReadsDirections (first : Word) (d : Direction) (n : ℕ) (text : List ℕ) (e : Direction) (rest : List ℕ) : Type 0 where
  pub front : List Word
  pub begins : words text ≡ front ++ words rest
  pub end : IsSuffix text rest
  pub at : (ws : List Word) → EndsDirection e ws → directions_at d (front ++ ws) ≡ Some (e, ws)
  pub ends : EndsDirection e (words rest)
  pub last : LastIs (λ w. IsTrue (is_some (direction_named w))) (first ∷ front)
  pub room : n < 64 → n + fewest_named e ≤ 64

-- The words go on with directions, whatever follows them.
abbrev pub BeginDirections : Direction → List Word → (Direction → Type 0) → Type 0
BeginDirections d ws Is = (more : List Word) × (e : Direction) × ((us : List Word) → directions_at d (ws ++ (more ++ us)) ≡ Some (e, us)) × Is e

-- what is expected in qualifiers after the words `front` instead of `next`: an argument, or fewer terms
abbrev pub IsDueInSide : List Word → Expected → Type 0 → Type 0
IsDueInSide front e Long = WantsArgument front e ⊎ ((e ≡ expects.FewerTerms) × Long)

-- After `first`, which is the direction d, and n terms no directions begin like the text, up to the word at the place `left`, or
-- end there, but both, for which there is no room. Some begin with the words before that place, after which e is expected.
pub record RefusesDirections (first : Word) (d : Direction) (n : ℕ) (text : List ℕ) (left : ℕ) (e : Expected) : Type 0 where
  pub front : List Word
  pub place : IsPlace text front left
  pub begins : n < 64 → BeginDirections d front (λ f. n + fewest_named f ≤ 64)
  pub none : (ws more : List Word) (f : Direction) → take 1 ws ≡ take 1 (words (drop (length text - left) text)) → directions_at d (front ++ ws) ≡ Some (f, more)
      → (f ≡ direction.Both) × (62 < n)
  pub expected : IsDueInSide (first ∷ front) e (BeginDirections d (front ++ take 1 (words (drop (length text - left) text))) (λ f. ⊤))

-- The text begins with words after which a side's identifier is of this kind, or with none, and `rest` follows them.
pub record ReadsKind (text : List ℕ) (k : Kind) (rest : List ℕ) : Type 0 where
  pub front : List Word
  pub begins : words text ≡ front ++ words rest
  pub end : IsSuffix text rest
  pub at : (d : Direction) (ws : List Word) → EndsBefore d k ws → (side_at d (front ++ ws) ≡ (of_any_protocol d k, ws)) × EndsDirection d (front ++ ws)
  pub ends : (d : Direction) → EndsDirection d (words text) → EndsBefore d k (words rest)
  pub wants : (w : Word) → IsTrue (is_some (direction_named w)) → WantsArgument (w ∷ front) (wanted k)

-- The text begins with the qualifiers h, of any protocol. After n terms there is room for them.
pub record ReadsSide (n : ℕ) (text : List ℕ) (h : Head) : Type 0 where
  pub first : Word
  pub front : List Word
  pub begins : words text ≡ first ∷ (front ++ words h.rest.now)
  pub end : IsSuffix text h.rest.now
  pub any : h.qualifiers.protocol ≡ None
  pub some : IsTrue (is_some (side_or_kind_at (first ∷ [])))
  pub at : (ws : List Word) → EndsBefore h.qualifiers.direction h.qualifiers.kind ws → side_or_kind_at (first ∷ (front ++ ws)) ≡ Some (h.qualifiers, ws)
  pub ends : EndsBefore h.qualifiers.direction h.qualifiers.kind (words h.rest.now)
  pub wants : WantsArgument (first ∷ front) (wanted h.qualifiers.kind)
  pub room : n < 64 → n + fewest_named h.qualifiers.direction ≤ 64

-- The words begin qualifiers of any protocol with an identifier.
abbrev pub BeginSide : List Word → (Named → Type 0) → Type 0
BeginSide ws Is =
    (rest : List Word) × (x : Qualifiers) × (id : Word) × (m : Named) × (side_or_kind_at (ws ++ rest) ≡ Some (x, id ∷ []))
    × Identifies x.kind x.direction id m × (x.protocol ≡ None) × Is m

-- After n terms no qualifiers of any protocol and identifier with few enough terms begin like the text, up to the word at the
-- place `left`, or end there. Some begin with the words before that place, after which e is expected.
pub record RefusesSide (n : ℕ) (text : List ℕ) (left : ℕ) (e : Expected) : Type 0 where
  pub first : Word
  pub front : List Word
  pub place : IsPlace text (first ∷ front) left
  pub some : IsTrue (is_some (side_or_kind_at (first ∷ [])))
  pub begins : n < 64 → BeginSide (first ∷ front) (λ m. n + terms_of (says_named m) ≤ 64)
  pub none : (ws us more : List Word) (x : Qualifiers) (id : Word) (m : Named) → take 1 ws ≡ take 1 (words (drop (length text - left) text))
      → side_or_kind_at (first ∷ (front ++ ws)) ≡ Some (x, id ∷ (us ++ more)) → Identify x.kind x.direction id us m → 64 < n + terms_of (says_named m)
  pub expected : IsDueInSide (first ∷ front) e (BeginSide (first ∷ (front ++ take 1 (words (drop (length text - left) text)))) (λ m. ⊤))

-- The text begins with the qualifiers h: with a protocol, if they have one, and the others after it. After n terms there is room
-- for them.
pub record ReadsQualifiers (n : ℕ) (text : List ℕ) (h : Head) : Type 0 where
  pub word : Word
  pub front : List Word
  pub begins : words text ≡ word ∷ (front ++ words h.rest.now)
  pub end : IsSuffix text h.rest.now
  pub any : h.qualifiers.protocol ≡ None → IsTrue (is_some (side_or_kind_at (word ∷ [])))
  pub with : (p : Protocol) → h.qualifiers.protocol ≡ Some p
      → (first : Word) × (more : List Word) × (front ≡ first ∷ more) × (protocol_named word ≡ Some p) × IsTrue (is_some (side_or_kind_at (first ∷ [])))
  pub at : (ws : List Word) → EndsBefore h.qualifiers.direction h.qualifiers.kind ws → qualifiers_at (word ∷ (front ++ ws)) ≡ Some (h.qualifiers, ws)
  pub ends : EndsBefore h.qualifiers.direction h.qualifiers.kind (words h.rest.now)
  pub wants : WantsArgument (word ∷ front) (wanted h.qualifiers.kind)
  pub room : n < 64 → n + fewest_terms h.qualifiers ≤ 64

-- After the qualifiers h, the text begins with the address a of a network and the word `mask`, and `rest` follows them.
pub record BeginsMask (h : Head) (a : ℕ) (rest : List ℕ) : Type 0 where
  pub address : FirstWord
  pub mask : FirstWord
  pub network : h.qualifiers.kind ≡ kind.Network
  pub front : IsFrontText address.bytes.now a
  pub first : IsFirstWord h.rest.now address
  pub second : IsFirstWord address.rest.now mask
  pub is_mask : mask.bytes.now ≡ codes "mask"
  pub after : rest ≡ mask.rest.now

-- the word w isn't the address of a network, or no mask follows it
abbrev pub LacksMask : Kind → FirstWord → Type 0
LacksMask k w = (a : ℕ) → k ≡ kind.Network → IsFrontText w.bytes.now a → take 1 (words w.rest.now) ≡ codes "mask" ∷ [] → ⊥

-- After k terms the text begins with the primitive p, and `rest` follows it. No other primitive begins like these words, up
-- to the word after them.
pub record ReadsPrimitive (before : Option Qualifiers) (k : ℕ) (text : List ℕ) (p : Primitive) (rest : List ℕ) : Type 0 where
  pub word : Word
  pub args : List Word
  pub begins : words text ≡ word ∷ (args ++ words rest)
  pub is : IsPrimitive before word args p
  pub few : k < 64 → k + terms_of (says p) ≤ 64
  pub end : IsSuffix text rest
  pub only : (q : Primitive) (v : Word) (vs ws more : List Word) → IsPrimitive before v vs q → IsTrue (ends_term more)
      → v ∷ (vs ++ more) ≡ word ∷ (args ++ ws) → take 1 ws ≡ take 1 (words rest) → (v ≡ word) × (vs ≡ args) × (q ≡ p)

-- a primitive begins with the words
abbrev pub BeginsPrimitive : Option Qualifiers → List Word → (Primitive → Type 0) → Type 0
BeginsPrimitive before ws Is = (w : Word) × (args rest : List Word) × (p : Primitive) × IsPrimitive before w args p × Is p × (w ∷ args ≡ ws ++ rest)

-- What is expected in a primitive after the words `front` instead of `next`. A word is refused for the number of terms if
-- a primitive begins with these words and that one.
abbrev pub IsDueIn : Option Qualifiers → List Word → List Word → Expected → Type 0
IsDueIn before front next expects.Operand = (front ≡ []) × ¬ (next ≡ codes "(" ∷ [])
IsDueIn before front next expects.FewerTerms = BeginsPrimitive before (front ++ next) (λ p. ⊤)
IsDueIn before front next e = WantsArgument front e

-- After k terms no primitive with few enough terms begins like the text, up to the word at the place `left`, or ends there.
-- Some primitive begins with the words before that place, after which e is expected.
pub record RefusesPrimitive (before : Option Qualifiers) (k : ℕ) (text : List ℕ) (left : ℕ) (e : Expected) : Type 0 where
  pub front : List Word
  pub place : IsPlace text front left
  pub begins : k < 64 → BeginsPrimitive before front (λ p. k + terms_of (says p) ≤ 64)
  pub none : (q : Primitive) (v : Word) (vs ws more : List Word) → IsPrimitive before v vs q → k + terms_of (says q) ≤ 64 → IsTrue (ends_term more)
      → v ∷ (vs ++ more) ≡ front ++ ws → take 1 ws ≡ take 1 (words (drop (length text - left) text)) → ⊥
  pub expected : IsDueIn before front (take 1 (words (drop (length text - left) text))) e
