use Rattle.ip_spec.proofs.Common.{rules, arith}
use Rattle.ip_ext_chains.specs.Write.{IsWritten}
use Rattle.ip_ext_chains.proofs.WriteLemmas.{all_written, fault_written, written_len, written_again, written_whole, written_cleared, written_alike}
use Rattle.ip_ext_chains.proofs.ipv6_exts.Ipv6Extensions.write.Goals as goal

pub append-requires-clause-room : goal.append-requires-clause-room
append-requires-clause-room g c = omega (arith, c.in_default.ensures.ok, c.header_len.ensures.len, c.reserve.ensures.len)

-- the bytes written
written : (g : _) (c : goal.In-Ok g) → IsWritten c.args.self.now c.args.first.0 c.args.out.now.items c.append.new.out.items
written g c =
    let w = c.in-Ok.ensures.written in
    all_written c.args.self.now c.args.first.0 c.args.out.now.items c.append.new.out.items c.in-Ok.field-0 w.reached w.is_reached w.answer (cc (w.appended))

pub returns-in-Ok-clause-ok : goal.returns-in-Ok-clause-ok
returns-in-Ok-clause-ok = written

pub returns-in-Ok-clause-len : goal.returns-in-Ok-clause-len
returns-in-Ok-clause-len g c =
    omega (arith, written_len c.args.self.now c.args.first.0 c.args.out.now.items c.append.new.out.items (written g c), c.append.new.out.ok.0, c.args.out.now.ok.0)

pub returns-in-Ok-clause-parsed_again : goal.returns-in-Ok-clause-parsed_again
returns-in-Ok-clause-parsed_again g c = written_again c.args.self.now c.args.first.0 c.args.out.now.items c.append.new.out.items (written g c)

pub returns-in-Ok-clause-parsed_whole : goal.returns-in-Ok-clause-parsed_whole
returns-in-Ok-clause-parsed_whole g c =
    written_whole c.args.self.now c.args.first.0 c.args.out.now.items c.append.new.out.items (written g c) c.header_len.ensures.encodable

pub returns-in-Ok-clause-cleared : goal.returns-in-Ok-clause-cleared
returns-in-Ok-clause-cleared g c = written_cleared c.args.self.now c.args.first.0 c.args.out.now.items c.append.new.out.items (written g c)

pub returns-in-Ok-clause-alike : goal.returns-in-Ok-clause-alike
returns-in-Ok-clause-alike g c = written_alike c.args.self.now c.args.first.0 c.args.out.now.items c.append.new.out.items (written g c)

pub returns-in-Err-append-clause-content : goal.returns-in-Err-append-clause-content
returns-in-Err-append-clause-content g c =
    let w = c.in-Err-append.ensures.written in
    let fault = fault_written c.args.self.now c.args.first.0 c.args.out.now.items c.append.new.out.items c.in-Err-append.fault w.reached w.is_reached w.answer (cc (w.appended)) in search rules
