use Rattle.ip_spec.proofs.Common.{rules, arith, ◌≡◌, ℕ, refl, [], IsRawNumber, asks_raw, raw_start, raw_rest}
use Rattle.ip_base.specs.declared.err.layer.Layer.TheVariants.{Ipv6ExtHeader}
use Rattle.ip_ext_chains.specs.ChainReading.{layer_of}
use Rattle.ip_ext_chains.proofs.ipv6_exts_read.take_raw.Goals as goal

raw_layer : (m : ℕ) → IsRawNumber m → layer_of m ≡ Ipv6ExtHeader
raw_layer m is = search rules

pub returns-in-Err-clause-refused : goal.returns-in-Err-clause-refused
returns-in-Err-clause-refused g c = λ m is. c.in-Err.ensures.refused m _ [] (rw (raw_layer m is) c.start_layer.ensures.begun) (asks_raw is (raw_start refl refl))

pub returns-in-Err-read_exact-clause-refused : goal.returns-in-Err-read_exact-clause-refused
returns-in-Err-read_exact-clause-refused g c = λ m is.
    c.in-Err-read_exact.ensures.refused m _ c.read_exact.new.buf (rw (raw_layer m is) (c.in-Ok.ensures.more Ipv6ExtHeader _ [] c.start_layer.ensures.begun)) (asks_raw is (raw_rest (omega arith) (search rules)))
