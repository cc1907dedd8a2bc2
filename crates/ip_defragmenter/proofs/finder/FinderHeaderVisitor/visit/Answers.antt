use Rattle.ip_spec.proofs.Common.{◌≡◌, ℕ, true, false, Option, Some, None, refl, sym, ◌∙◌, ap, is_some, cases_Bool, inl, inr, if◌then◌else◌, cond-true, cond-false, ExtHeader}
use Rattle.ip_dissect.specs.Fragment.{fragments}
use Rattle.ip_defragmenter.specs.Finder.{found_at, found_after}
use Rattle.ip_defragmenter.specs.declared.finder.FoundHeader.{FoundHeader}
use Rattle.ip_defragmenter.specs.declared.finder.Finder.{Finder}
use Rattle.ip_defragmenter.proofs.FinderLemmas.{found_stays, found_now, not_found}
use Rattle.ip_defragmenter.proofs.finder.FinderHeaderVisitor.visit.Goals as goal

pub returns-then-is_some : goal.returns-then-is_some
returns-then-is_some c = λ old k d visited index at new.
    let is : c.args.self.now ≡ found_after k d = visited new in
    is ∙ found_stays k d (record { number = c.args.number.0; bytes = c.args.header.now }) (ap (λ (f : Finder). is_some f.header) (sym is) ∙ (sym c.is_some.ensures ∙ c.if-is_some.true))

-- A header that was found fragments the payload, and u other does.
fragments_is : (h : ExtHeader) (at : ℕ) (f : FoundHeader) → (let o : Option FoundHeader = Some f in o) ≡ (if fragments h then Some (found_at at h) else None) → (fragments h ≡ true) × (f ≡ found_at at h)
fragments_is h at f e = elim (cases_Bool (fragments h)) [
  | inl t ↦ (t, let same : (let o : Option FoundHeader = Some f in o) ≡ Some (found_at at h) = e ∙ cond-true (fragments h) (Some (found_at at h)) None t in cc)
  | inr u ↦ (let wrong : (let o : Option FoundHeader = Some f in o) ≡ None = e ∙ cond-false (fragments h) (Some (found_at at h)) None u in absurd (cc))
]

fragments_not : (h : ExtHeader) (at : ℕ) → (let o : Option FoundHeader = None in o) ≡ (if fragments h then Some (found_at at h) else None) → fragments h ≡ false
fragments_not h at e = elim (cases_Bool (fragments h)) [
  | inl t ↦ (let wrong : (let o : Option FoundHeader = None in o) ≡ Some (found_at at h) = e ∙ cond-true (fragments h) (Some (found_at at h)) None t in absurd (cc))
  | inr u ↦ u
]

pub returns-in-Some : goal.returns-in-Some
returns-in-Some c = λ old k d visited index at new.
    let h : ExtHeader = record { number = c.args.number.0; bytes = c.args.header.now } in
    let is = fragments_is h c.args.offset c.in-Some.found (c.in-Some.ensures h refl) in
    ap (λ (f : FoundHeader). record c.args.self.now { header = Some f }) is.1
    ∙ found_now k d h c.args.offset c.args.self.now at (visited new) (sym c.is_some.ensures ∙ c.if-is_some.false) is.0

pub returns-in-None : goal.returns-in-None
returns-in-None c = λ old k d visited index at new.
    let h : ExtHeader = record { number = c.args.number.0; bytes = c.args.header.now } in
    not_found k d h c.args.offset c.args.self.now at (visited new) (sym c.is_some.ensures ∙ c.if-is_some.false) (fragments_not h c.args.offset (c.in-None.ensures h refl))
