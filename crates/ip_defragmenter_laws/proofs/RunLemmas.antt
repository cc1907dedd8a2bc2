-- The fragments of one packet, among others, over a run.
use Rattle.std.proofs.Common.{◌≡◌, ℕ, ◌≤◌, List, [], ◌∷◌, Bool, true, false, length, refl, sym, ap, ◌∙◌, subst, Option, Some, None, Result, Ok, Err, cond}
use Rattle.std.specs.List.{list_any}
use Rattle.std.proofs.lemmas.Bool.{and_from, and_parts, false≢true, false_from_ne_true, or_right}
use Rattle.std.proofs.lemmas.Option.{none-some}
use Rattle.ip_dissect.specs.Dissection.{dissected}
use Rattle.ip_reassembly.specs.Fragment.{Fragment, is_same}
use Rattle.ip_reassembly.specs.Split.{IsSplit, are_among}
use Rattle.ip_reassembly.specs.declared.progress.Progress.TheVariants as progress
use Rattle.ip_defragmenter.specs.Added.{IsAdded, is_whole, outcome_in}
use Rattle.ip_defragmenter.specs.FragmentOf.{FragmentParts, packet_fragment}
use Rattle.ip_defragmenter.specs.Key.{IsKey}
use Rattle.ip_defragmenter.specs.declared.err.FragmentError.{FragmentError}
use Rattle.ip_defragmenter.specs.declared.key.FragmentKey.{FragmentKey}
use Rattle.ip_defragmenter.specs.declared.outcome.Outcome.TheVariants.{MoreWanted}
use Rattle.ip_defragmenter.specs.declared.settings.Settings.{Settings}
use Rattle.ip_defragmenter_laws.specs.Run.{TableState, Call, Step, Adds, GivesUp, Clears, IsCall, IsCallRun, IsFresh, IsKept, AreKept, IsOther, IsCallBy, AreCalls, pieces_in, with_piece}
use Rattle.ip_defragmenter_laws.specs.Written.{IsMadeWhole}
use Rattle.ip_defragmenter_laws.proofs.PartLemmas.{IsPart, AreParts, part_outcome, part_packet}
use Rattle.ip_defragmenter_laws.proofs.CallLemmas.{valid_run}
use Rattle.ip_defragmenter_laws.proofs.SlotRunLemmas.{Keeps, IsAddedOwn, keeps_cleared, keeps_fresh, keeps_given_up, keeps_other, keeps_own, keeps_unchanged}
use Rattle.ip_defragmenter_laws.proofs.ReadKeyLemmas.{read_key}

-- With one more piece, those that were there are still there.
more_among : (pieces : List Fragment) (p : Fragment) (ps : List Fragment) → are_among pieces ps ≡ true → are_among pieces (p ∷ ps) ≡ true
more_among [] p ps all = refl
more_among (q ∷ qs) p ps all =
    let parts = and_parts (list_any (is_same q) ps) (are_among qs ps) all in
    and_from (list_any (is_same q) (p ∷ ps)) (are_among qs (p ∷ ps)) (or_right (is_same q p) (list_any (is_same q) ps) parts.0) (more_among qs p ps parts.1)

fewer_among : (pieces : List Fragment) (o : Option Fragment) (ps : List Fragment) → are_among pieces (with_piece o ps) ≡ false → are_among pieces ps ≡ false
fewer_among pieces None ps fails = fails
fewer_among pieces (Some p) ps fails = false_from_ne_true (are_among pieces ps) (λ all. false≢true (sym fails ∙ more_among pieces p ps all))

-- A packet is read as the fragment with this piece.
pub record IsReadAs (k : FragmentKey) (point : ℕ) (payload s : List ℕ) (p : Fragment) (bytes : List ℕ) : Type 0 where
  pub parts : FragmentParts
  pub read : packet_fragment (dissected bytes) ≡ Ok (Some parts)
  pub key : parts.key ≡ k
  pub part : IsPart point payload s p parts

-- What is known after some calls, before all pieces arrived.
record IsAfter (seed : List ℕ) (context : ℕ) (k : FragmentKey) (point : ℕ) (payload s : List ℕ) (pieces ps : List Fragment) (t : TableState) : Type 0 where
  given : List FragmentParts
  parts : AreParts point payload s ps given
  among : are_among ps pieces ≡ true
  keeps : Keeps seed context k given t.slots t.memories

-- A call with another packet.
other_call : (o : Result (Option FragmentParts) FragmentError) (settings : Settings) (context : ℕ) (k : FragmentKey) (given : List FragmentParts) (t u : TableState) (x : Call) → IsKey k → packet_fragment (dissected x.bytes) ≡ o
    → IsCall settings t u x → IsOther context k x → IsKept context k x.added.lost → Keeps settings.seed context k given t.slots t.memories → Keeps settings.seed context k given u.slots u.memories
other_call (Err e) settings context k given t u x is_k read call other kept keeps =
    let same = call.unusable e read in
    keeps_unchanged settings.seed context k given t.slots u.slots t.memories u.memories same.1 same.2 keeps
other_call (Ok None) settings context k given t u x is_k read call other kept keeps =
    let same = call.not_fragment read in
    keeps_unchanged settings.seed context k given t.slots u.slots t.memories u.memories same.1 same.2 keeps
other_call (Ok (Some f)) settings context k given t u x is_k read call other kept keeps =
    keeps_other settings t.slots u.slots t.memories u.memories x.context x.time f x.added call.as_many (read_key x.bytes f call.bytes read) (call.added f read) context k is_k given
    (λ at is. other f read at is) kept keeps

-- A call with a fragment of the packet.
own_call : (settings : Settings) (context : ℕ) (k : FragmentKey) (point : ℕ) (payload s : List ℕ) (p : Fragment) (given : List FragmentParts) (t u : TableState) (x : Call) → IsKey k → (r : IsReadAs k point payload s p x.bytes)
    → x.context ≡ context → IsCall settings t u x → IsKept context k x.added.lost → Keeps settings.seed context k given t.slots t.memories
    → IsAddedOwn settings.seed context k given r.parts u.slots u.memories x.added
own_call settings context k point payload s p given t u x is_k r at call kept keeps =
    let f : FragmentParts = r.parts in
    let A : ℕ → Type 0 = λ c. IsAdded t.slots t.memories settings c x.time f u.slots u.memories x.added in
    let B : FragmentKey → Type 0 = λ h. IsKept context h x.added.lost in
    let C : FragmentKey → Type 0 = λ h. Keeps settings.seed context h given t.slots t.memories in
    let D : FragmentKey → Type 0 = λ h. IsAddedOwn settings.seed context h given f u.slots u.memories x.added in
    let added : A context = subst A at (call.added f r.read) in
    subst D r.key (keeps_own settings context t.slots u.slots t.memories u.memories x.time f x.added given call.as_many (subst IsKey (sym r.key) is_k) added
    (subst B (sym r.key) kept) (subst C (sym r.key) keeps) r.part.sound)

-- What the memory returned then.
own_result : (settings : Settings) (context : ℕ) (k : FragmentKey) (point : ℕ) (payload s : List ℕ) (pieces : List Fragment) (p : Fragment) (ps : List Fragment) (given : List FragmentParts) (t u : TableState) (x : Call)
    → (r : IsReadAs k point payload s p x.bytes) (own : IsAddedOwn settings.seed context k given r.parts u.slots u.memories x.added)
    → IsSplit payload pieces → length payload ≤ 65535 → are_among (p ∷ ps) pieces ≡ true → AreParts point payload s ps given
    → own.result ≡ Ok (cond (are_among pieces (p ∷ ps)) progress.Whole progress.MoreWanted)
own_result settings context k point payload s pieces p ps given t u x r own split fits all parts =
    own.result_is ∙ part_outcome point payload s pieces p ps r.parts given split fits all (r.part, parts)

module _ (settings : Settings) (context : ℕ) (k : FragmentKey) (is_k : IsKey k) (point : ℕ) (payload s : List ℕ) (pieces : List Fragment) (split : IsSplit payload pieces) (fits : length payload ≤ 65535) where
  after_call : (o : Option Fragment) (ps : List Fragment) (t u : TableState) (x : Call) → IsCallBy (IsReadAs k point payload s) pieces context k o x → IsKept context k x.added.lost → IsCall settings t u x
      → IsAfter settings.seed context k point payload s pieces ps t → are_among pieces (with_piece o ps) ≡ false → IsAfter settings.seed context k point payload s pieces (with_piece o ps) u
  after_call None ps t u x by kept call after fails = record {
    given = after.given;
    parts = after.parts;
    among = after.among;
    keeps = other_call (packet_fragment (dissected x.bytes)) settings context k after.given t u x is_k refl call by kept after.keeps;
  }
  after_call (Some p) ps t u x by kept call after fails =
      let r = by.2 in
      let all : are_among (p ∷ ps) pieces ≡ true = and_from (list_any (is_same p) pieces) (are_among ps pieces) by.1 after.among in
      let own = own_call settings context k point payload s p after.given t u x is_k r by.0 call kept after.keeps in
      let result = own_result settings context k point payload s pieces p ps after.given t u x r own split fits all after.parts in
      record {
        given = r.parts ∷ after.given;
        parts = (r.part, after.parts);
        among = all;
        keeps = own.keeps (ap is_whole result ∙ ap (λ (b : Bool). is_whole (Ok (cond b progress.Whole progress.MoreWanted))) fails);
      }

  -- After any calls.
  abbrev After : List Fragment → TableState → Type 0
  After ps t = IsAfter settings.seed context k point payload s pieces ps t

  after_run : (start : TableState) (xs : List Step) (t : TableState) → IsFresh settings start → IsCallRun settings start xs t → AreCalls (IsReadAs k point payload s) pieces context k xs → AreKept context k xs
      → are_among pieces (pieces_in xs) ≡ false → After (pieces_in xs) t
  after_run start [] t fresh run calls kept fails = subst (After []) run (record { given = []; parts = tt; among = refl; keeps = keeps_fresh settings context k start fresh })
  after_run start (Adds x ∷ xs) t fresh run calls kept fails =
      let u : TableState = run.0 in
      after_call x.piece (pieces_in xs) u t x calls.0 kept.0 run.2
      (after_run start xs u fresh run.1 calls.1 kept.1 (fewer_among pieces x.piece (pieces_in xs) fails)) fails
  after_run start (GivesUp x ∷ xs) t fresh run calls kept fails =
      let u : TableState = run.0 in
      let before = after_run start xs u fresh run.1 calls kept.1 fails in
      record { given = before.given; parts = before.parts; among = before.among; keeps = keeps_given_up settings.seed context k before.given u t x run.2 kept.0 before.keeps }
  after_run start (Clears ∷ xs) t fresh run calls kept fails =
      record { given = []; parts = tt; among = refl; keeps = keeps_cleared settings.seed context k run.0 t run.2 (valid_run settings start xs run.0 fresh run.1) }

  whole_by : (o : Option Fragment) (ps : List Fragment) (t u : TableState) (x : Call) → IsCallBy (IsReadAs k point payload s) pieces context k o x → IsKept context k x.added.lost → IsCall settings t u x
      → IsAfter settings.seed context k point payload s pieces ps t → are_among pieces ps ≡ false → are_among pieces (with_piece o ps) ≡ true → IsMadeWhole s x u
  whole_by None ps t u x by kept call after fails every = absurd (false≢true (sym fails ∙ every))
  whole_by (Some p) ps t u x by kept call after fails every =
      let r = by.2 in
      let all : are_among (p ∷ ps) pieces ≡ true = and_from (list_any (is_same p) pieces) (are_among ps pieces) by.1 after.among in
      let own = own_call settings context k point payload s p after.given t u x is_k r by.0 call kept after.keeps in
      let result = own_result settings context k point payload s pieces p ps after.given t u x r own split fits all after.parts in
      record {
        index = own.index;
        memory = own.memory;
        outcome = own.outcome ∙ (ap (outcome_in own.index) result ∙ ap (λ (b : Bool). outcome_in own.index (Ok (cond b progress.Whole progress.MoreWanted))) every);
        there = own.at;
        packet = part_packet point payload s pieces p ps r.parts after.given own.memory split fits all every (r.part, after.parts) own.stored;
      }

  -- The packet is whole once each piece arrived.
  pub made_whole : (start : TableState) (x : Call) (xs : List Step) (t : TableState) → IsFresh settings start → IsCallRun settings start (Adds x ∷ xs) t → AreCalls (IsReadAs k point payload s) pieces context k (Adds x ∷ xs)
      → AreKept context k (Adds x ∷ xs) → are_among pieces (pieces_in xs) ≡ false → are_among pieces (pieces_in (Adds x ∷ xs)) ≡ true → IsMadeWhole s x t
  made_whole start x xs t cleared run calls kept fails every =
      let u : TableState = run.0 in
      whole_by x.piece (pieces_in xs) u t x calls.0 kept.0 run.2 (after_run start xs u cleared run.1 calls.1 kept.1 fails) fails every

  wanted_by : (p : Fragment) (ps : List Fragment) (t u : TableState) (x : Call) → IsCallBy (IsReadAs k point payload s) pieces context k (Some p) x → IsKept context k x.added.lost → IsCall settings t u x
      → IsAfter settings.seed context k point payload s pieces ps t → are_among pieces (p ∷ ps) ≡ false → x.added.outcome ≡ MoreWanted
  wanted_by p ps t u x by kept call after fails =
      let r = by.2 in
      let all : are_among (p ∷ ps) pieces ≡ true = and_from (list_any (is_same p) pieces) (are_among ps pieces) by.1 after.among in
      let own = own_call settings context k point payload s p after.given t u x is_k r by.0 call kept after.keeps in
      let result = own_result settings context k point payload s pieces p ps after.given t u x r own split fits all after.parts in
      own.outcome ∙ (ap (outcome_in own.index) result ∙ ap (λ (b : Bool). outcome_in own.index (Ok (cond b progress.Whole progress.MoreWanted))) fails)

  wanted_of : (o : Option Fragment) (p : Fragment) (ps : List Fragment) (t u : TableState) (x : Call) → o ≡ Some p → IsCallBy (IsReadAs k point payload s) pieces context k o x → IsKept context k x.added.lost → IsCall settings t u x
      → IsAfter settings.seed context k point payload s pieces ps t → are_among pieces (with_piece o ps) ≡ false → x.added.outcome ≡ MoreWanted
  wanted_of None p ps t u x has by kept call after fails = absurd (none-some _ has)
  wanted_of (Some q) p ps t u x has by kept call after fails = wanted_by q ps t u x by kept call after fails

  -- Before that, a fragment's outcome is that more are wanted.
  pub still_wanted : (start : TableState) (x : Call) (xs : List Step) (t : TableState) (p : Fragment) → IsFresh settings start → IsCallRun settings start (Adds x ∷ xs) t
      → AreCalls (IsReadAs k point payload s) pieces context k (Adds x ∷ xs) → AreKept context k (Adds x ∷ xs) → x.piece ≡ Some p → are_among pieces (pieces_in (Adds x ∷ xs)) ≡ false → x.added.outcome ≡ MoreWanted
  still_wanted start x xs t p fresh run calls kept has fails =
      let u : TableState = run.0 in
      wanted_of x.piece p (pieces_in xs) u t x has calls.0 kept.0 run.2
      (after_run start xs u fresh run.1 calls.1 kept.1 (fewer_among pieces x.piece (pieces_in xs) fails)) fails
