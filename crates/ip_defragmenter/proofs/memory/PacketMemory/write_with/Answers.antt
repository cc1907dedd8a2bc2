use Rattle.std.proofs.Common.{◌≡◌, ℕ, List, ap, ◌∙◌, refl, length}
use Rattle.ip_defragmenter.specs.Whole.{whole_fault}
use Rattle.ip_defragmenter.specs.Memory.{FirstParts}
use Rattle.ip_defragmenter.proofs.HeaderLemmas.{parts_in, first_is}
use Rattle.ip_defragmenter.proofs.memory.PacketMemory.write_with.Goals as goal

-- The fault by what the memory has of its first fragment.
fault_by : (headers : List ℕ) (link room n : ℕ) (p f : FirstParts) → headers ≡ p.headers → link ≡ p.link → p ≡ f → whole_fault headers link n room ≡ whole_fault f.headers f.link n room
fault_by headers link room n p f same number is =
    ap (λ (h : List ℕ). whole_fault h link n room) same
    ∙ (ap (λ (l : ℕ). whole_fault p.headers l n room) number
    ∙ ap (λ (q : FirstParts). whole_fault q.headers q.link n room) is)

pub returns-in-Ok-clause-fault : goal.returns-in-Ok-clause-fault
returns-in-Ok-clause-fault c = λ f first.
    c.in-Ok.ensures.fault
    ∙ fault_by c.headers.result.now c.args.self.now.link (length c.args.out.now) (length c.args.payload.now) (parts_in c.args.self.now) f c.headers.ensures refl (first_is c.args.self.now f first)

pub returns-in-Err-clause-fault : goal.returns-in-Err-clause-fault
returns-in-Err-clause-fault c = λ f first.
    c.in-Err.ensures.fault
    ∙ fault_by c.headers.result.now c.args.self.now.link (length c.args.out.now) (length c.args.payload.now) (parts_in c.args.self.now) f c.headers.ensures refl (first_is c.args.self.now f first)
