use Rattle.ip_spec.proofs.Common.{sym, arith, [], append-nil}
use Rattle.ip_ext_chains.proofs.Ipv4WalkLemmas.{one_ipv4_encoding, one_ipv4_encoded, none_encodes, one_encodes, written, encoding_parsed, encoding_parsed_again}
use Rattle.ip_ext_chains.proofs.ipv4_exts.Ipv4Extensions.write.Goals as goal

pub returns-in_default-clause-ok : goal.returns-in_default-clause-ok
returns-in_default-clause-ok g c = ([], none_encodes _ _ c.in_default.is, sym (append-nil _))

pub returns-in_default-clause-parsed_again : goal.returns-in_default-clause-parsed_again
returns-in_default-clause-parsed_again g c = λ b r m appended. encoding_parsed_again _ _ m b r (written _ _ _ _ b (returns-in_default-clause-ok g c) appended)

pub returns-in_default-clause-parsed_whole : goal.returns-in_default-clause-parsed_whole
returns-in_default-clause-parsed_whole g c = λ b m appended. encoding_parsed _ _ m b (written _ _ _ _ b (returns-in_default-clause-ok g c) appended)

pub returns-in-Ok-clause-ok : goal.returns-in-Ok-clause-ok
returns-in-Ok-clause-ok g c = let (b, encodes, appended) = c.in-Ok.ensures.ok in (b, one_encodes _ _ _ b (grind arith) c.in-Some.is c.header_len.ensures.encodable encodes, appended)

pub returns-in-Ok-clause-parsed_again : goal.returns-in-Ok-clause-parsed_again
returns-in-Ok-clause-parsed_again g c = λ b r m appended. encoding_parsed_again _ _ m b r (written _ _ _ _ b (returns-in-Ok-clause-ok g c) appended)

pub returns-in-Ok-clause-parsed_whole : goal.returns-in-Ok-clause-parsed_whole
returns-in-Ok-clause-parsed_whole g c = λ b m appended. encoding_parsed _ _ m b (written _ _ _ _ b (returns-in-Ok-clause-ok g c) appended)

pub returns-in-Err-clause-only : goal.returns-in-Err-clause-only
returns-in-Err-clause-only g c = one_ipv4_encoding _ _

pub returns-in-Err-clause-alike : goal.returns-in-Err-clause-alike
returns-in-Err-clause-alike g c = λ v b. one_ipv4_encoded _ _ v b

pub returns-in-Ok-clause-only : goal.returns-in-Ok-clause-only
returns-in-Ok-clause-only g c = one_ipv4_encoding _ _

pub returns-in-Ok-clause-alike : goal.returns-in-Ok-clause-alike
returns-in-Ok-clause-alike g c = λ v b. one_ipv4_encoded _ _ v b
