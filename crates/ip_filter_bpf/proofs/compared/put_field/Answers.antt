use Rattle.std.proofs.Common.{◌≡◌, ℕ, ◌/◌, ◌^◌, ◌<◌, bit_and, ap, ◌∙◌}
use Rattle.ip_bpf.proofs.AssemblyLemmas.{extends-put, extends-trans}
use Rattle.ip_bpf.specs.Assembly.{result_at}
use Rattle.ip_bpf.specs.Machine.{number_at}
use Rattle.ip_filter_bpf.proofs.BlockLemmas.{load_goes_on}
use Rattle.ip_filter_bpf.proofs.FieldLemmas.{number_small, shifted_small}
use Rattle.ip_filter_bpf.proofs.compared.put_field.Goals as goal

pub returns-clause-front : goal.returns-clause-front
returns-clause-front c =
    extends-trans c.put.new.self c.put_shift.new.code c.args.code.now
    (extends-put c.put.new.self c.put_shift.new.code _ c.put.ensures)
    (extends-trans c.put_shift.new.code c.put_mask.new.code c.args.code.now c.put_shift.ensures.front
    (extends-trans c.put_mask.new.code c.branch-code.new.self c.args.code.now c.put_mask.ensures.front c.branch-code.ensures.front))

pub returns-clause-leads : goal.returns-clause-leads
returns-clause-leads c = λ packet r there bytes h m.
    let f = c.args.field in
    let n = number_at packet f.offset f.width in
    let small : n < 2 ^ 32 = number_small packet f.offset f.width bytes in
    ap (λ (l : ℕ). result_at c.put.new.self l packet m) c.label.ensures.value
    ∙ load_goes_on c.put.new.self c.put_shift.new.code f.width f.offset packet m c.put.ensures there
    ∙ c.put_shift.ensures.leads packet (record m { a = n })
    ∙ c.put_mask.ensures.leads packet (record m { a = n / 2 ^ f.shift }) (shifted_small n f.shift small)
    ∙ c.branch-code.ensures.leads packet (record m { a = bit_and (n / 2 ^ f.shift) f.mask })
    ∙ h (record m { a = bit_and (n / 2 ^ f.shift) f.mask })
