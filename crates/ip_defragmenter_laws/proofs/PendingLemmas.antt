-- A packet's memory has all of its fragments.
use Rattle.std.proofs.Common.{◌≡◌, ℕ, List, [], ◌∷◌, true, false, refl, sym, ap, ◌∙◌, subst, inl, inr, Option, Some, None, Result, Ok, Err, ◌&&◌, not, eqb}
use Rattle.std.specs.Prelude.{is_some}
use Rattle.std.proofs.lemmas.Bool.{and_from, and_parts, cases_Bool, cond-false, cond-true, eq-eqb, eqb-true, false≢true}
use Rattle.ip_dissect.specs.Dissection.{dissected}
use Rattle.ip_reassembly.specs.declared.progress.Progress.{Progress}
use Rattle.ip_reassembly.specs.declared.progress.Progress.TheVariants as progress
use Rattle.ip_defragmenter.specs.Added.{IsAdded, IsAddedUnless, is_whole, outcome_in}
use Rattle.ip_defragmenter.specs.FragmentOf.{FragmentParts, packet_fragment}
use Rattle.ip_defragmenter.specs.Key.{IsKey, same_key}
use Rattle.ip_defragmenter.specs.Memory.{own_refusal}
use Rattle.ip_defragmenter.specs.declared.err.FragmentError.{FragmentError}
use Rattle.ip_defragmenter.specs.declared.err.StoreError.{StoreError}
use Rattle.ip_defragmenter.specs.declared.key.FragmentKey.{FragmentKey}
use Rattle.ip_defragmenter.specs.declared.outcome.Outcome.{Outcome}
use Rattle.ip_defragmenter.specs.declared.outcome.Outcome.TheVariants.{Whole}
use Rattle.ip_defragmenter.specs.declared.settings.Settings.{Settings}
use Rattle.ip_defragmenter.proofs.KeyLemmas.{same_keys}
use Rattle.ip_defragmenter_laws.specs.Pending.{IsPending, IsWanting, fragments_in, is_own, with_own}
use Rattle.ip_defragmenter_laws.specs.Run.{Adds, Call, Clears, GivesUp, IsCall, IsCallRun, IsFresh, IsKept, Step, TableState}
use Rattle.ip_defragmenter_laws.proofs.CallLemmas.{valid_run}
use Rattle.ip_defragmenter_laws.proofs.ReadKeyLemmas.{read_key}
use Rattle.ip_defragmenter_laws.proofs.RoomLemmas.{same_self}
use Rattle.ip_defragmenter_laws.proofs.SlotRunLemmas.{IsAddedOwn, Keeps, keeps_cleared, keeps_fresh, keeps_given_up, keeps_other, keeps_own, keeps_unchanged}

-- A fragment of the packet is added.
pub own_added : (settings : Settings) (context : ℕ) (k : FragmentKey) (given : List FragmentParts) (t u : TableState) (x : Call) (f : FragmentParts) → IsKey k → packet_fragment (dissected x.bytes) ≡ Ok (Some f) → f.key ≡ k
    → own_refusal f ≡ None → x.context ≡ context → IsCall settings t u x → IsKept context k x.added.lost → Keeps settings.seed context k given t.slots t.memories
    → IsAddedOwn settings.seed context k given f u.slots u.memories x.added
own_added settings context k given t u x f is_k read key sound at call kept keeps =
    let A : ℕ → Type 0 = λ c. IsAdded t.slots t.memories settings c x.time f u.slots u.memories x.added in
    let B : FragmentKey → Type 0 = λ h. IsKept context h x.added.lost in
    let C : FragmentKey → Type 0 = λ h. Keeps settings.seed context h given t.slots t.memories in
    let D : FragmentKey → Type 0 = λ h. IsAddedOwn settings.seed context h given f u.slots u.memories x.added in
    let added : A context = subst A at (call.added f read) in
    subst D key (keeps_own settings context t.slots u.slots t.memories u.memories x.time f x.added given call.as_many (subst IsKey (sym key) is_k) added
    (subst B (sym key) kept) (subst C (sym key) keeps) sound)

none_there : (o : Option StoreError) → not (is_some o) ≡ true → o ≡ None
none_there None is = refl
none_there (Some e) is = absurd (false≢true is)

not_whole : (r : Result Progress StoreError) (i : ℕ) (a : Outcome) → a ≡ outcome_in i r → (a ≡ Whole i → ⊥) → is_whole r ≡ false
not_whole (Ok progress.MoreWanted) i a is wanting = refl
not_whole (Ok progress.Whole) i a is wanting = absurd (wanting is)
not_whole (Err e) i a is wanting = refl

module _ (settings : Settings) (context : ℕ) (k : FragmentKey) (is_k : IsKey k) (given : List FragmentParts) (t u : TableState) (x : Call) (call : IsCall settings t u x) (kept : IsKept context k x.added.lost) (wanting : IsWanting context k x)
    (keeps : Keeps settings.seed context k given t.slots t.memories) where
  abbrev After : List FragmentParts → Type 0
  After fs = Keeps settings.seed context k fs u.slots u.memories

  own : (f : FragmentParts) → packet_fragment (dissected x.bytes) ≡ Ok (Some f) → is_own context k x f ≡ true → After (f ∷ given)
  own f read one =
      let both = and_parts (eqb x.context context && same_key f.key k) (not (is_some (own_refusal f))) one in
      let names = and_parts (eqb x.context context) (same_key f.key k) both.0 in
      let at = eqb-true x.context context names.0 in
      let key = same_keys f.key k names.1 in
      let added = own_added settings context k given t u x f is_k read key (none_there (own_refusal f) both.1) at call kept keeps in
      added.keeps (not_whole added.result added.index x.added.outcome added.outcome (wanting f added.index read at key))

  other : (o : Option StoreError) (f : FragmentParts) → own_refusal f ≡ o → packet_fragment (dissected x.bytes) ≡ Ok (Some f) → is_own context k x f ≡ false → After given
  other (Some e) f refused read isnt =
      let P : Option StoreError → Type 0 = λ o. IsAddedUnless o t.slots t.memories settings x.context x.time f u.slots u.memories x.added in
      let by : P (Some e) = subst P refused (call.added f read) in
      keeps_unchanged settings.seed context k given t.slots u.slots t.memories u.memories by.1 by.2 keeps
  other None f refused read isnt =
      keeps_other settings t.slots u.slots t.memories u.memories x.context x.time f x.added call.as_many (read_key x.bytes f call.bytes read) (call.added f read) context k is_k given
      (λ at key. false≢true (sym isnt ∙ and_from (eqb x.context context && same_key f.key k) (not (is_some (own_refusal f)))
      (and_from (eqb x.context context) (same_key f.key k) (eq-eqb x.context context at) (ap (λ (h : FragmentKey). same_key h k) key ∙ same_self k)) (ap (λ (o : Option StoreError). not (is_some o)) refused))) kept keeps

  by_read : (o : Result (Option FragmentParts) FragmentError) → packet_fragment (dissected x.bytes) ≡ o → After (with_own context k x o given)
  by_read (Err e) read = (let same = call.unusable e read in keeps_unchanged settings.seed context k given t.slots u.slots t.memories u.memories same.1 same.2 keeps)
  by_read (Ok None) read = (let same = call.not_fragment read in keeps_unchanged settings.seed context k given t.slots u.slots t.memories u.memories same.1 same.2 keeps)
  by_read (Ok (Some f)) read = elim (cases_Bool (is_own context k x f)) [
    | inl one ↦ subst After (sym (cond-true (is_own context k x f) (f ∷ given) given one)) (own f read one)
    | inr isnt ↦ subst After (sym (cond-false (is_own context k x f) (f ∷ given) given isnt)) (other (own_refusal f) f refl read isnt)
  ]

pub pending_run : (settings : Settings) (context : ℕ) (k : FragmentKey) (start t : TableState) (xs : List Step) → IsKey k → IsFresh settings start → IsCallRun settings start xs t → IsPending context k xs
    → Keeps settings.seed context k (fragments_in context k xs) t.slots t.memories
pending_run settings context k start t [] is_k fresh run pending =
    let P : TableState → Type 0 = λ u. Keeps settings.seed context k [] u.slots u.memories in
    subst P run (keeps_fresh settings context k start fresh)
pending_run settings context k start t (Adds x ∷ xs) is_k fresh run pending =
    by_read settings context k is_k (fragments_in context k xs) run.0 t x run.2 pending.0 pending.1
    (pending_run settings context k start run.0 xs is_k fresh run.1 pending.2) (packet_fragment (dissected x.bytes)) refl
pending_run settings context k start t (GivesUp x ∷ xs) is_k fresh run pending =
    keeps_given_up settings.seed context k (fragments_in context k xs) run.0 t x run.2 pending.0 (pending_run settings context k start run.0 xs is_k fresh run.1 pending.1)
pending_run settings context k start t (Clears ∷ xs) is_k fresh run pending = keeps_cleared settings.seed context k run.0 t run.2 (valid_run settings start xs run.0 fresh run.1)
