-- SipHash-1-3 of words of 8 bytes, of which the lowest byte comes first (Aumasson and Bernstein, "SipHash: a fast
-- short-input PRF", section 2): one round for each word, and three at the end.
use Rattle.std.specs.Prelude.{ℕ, ◌+◌, ◌*◌, ◌%◌, ◌^◌, List, length, slice_index, bit_xor}
use Rattle.std.specs.List.{fold}
use Rattle.std.specs.Int.{w64, rotate_left}
use Rattle.ip_hash.specs.declared.siphash.Sip.{Sip}

-- the state under a key of two words
unfoldable pub keyed : List ℕ → Sip
keyed key = record {
  v0 = bit_xor (slice_index key 0) 0x736f6d6570736575;
  v1 = bit_xor (slice_index key 1) 0x646f72616e646f6d;
  v2 = bit_xor (slice_index key 0) 0x6c7967656e657261;
  v3 = bit_xor (slice_index key 1) 0x7465646279746573;
}

-- the sum modulo 2^64
abbrev pub plus64 : ℕ → ℕ → ℕ
plus64 a b = (a + b) % 2 ^ 64

-- after a round
unfoldable pub sip_round : Sip → Sip
sip_round s =
    let a = plus64 s.v0 s.v1 in
    let c = plus64 s.v2 s.v3 in
    let b = bit_xor (rotate_left w64 s.v1 13) a in
    let d = bit_xor (rotate_left w64 s.v3 16) c in
    let e = plus64 c b in
    let f = plus64 (rotate_left w64 a 32) d in
    record { v0 = f; v1 = bit_xor (rotate_left w64 b 17) e; v2 = rotate_left w64 e 32; v3 = bit_xor (rotate_left w64 d 21) f }

-- after a word
unfoldable pub sip_word : Sip → ℕ → Sip
sip_word s word =
    let t = sip_round (record s { v3 = bit_xor s.v3 word }) in
    record t { v0 = bit_xor t.v0 word }

-- after the last word, which has the number of bytes modulo 256 in its highest byte
unfoldable pub finished : Sip → ℕ
finished s =
    let t = sip_round (sip_round (sip_round (record s { v2 = bit_xor s.v2 0xff }))) in
    bit_xor (bit_xor (bit_xor t.v0 t.v1) t.v2) t.v3

-- the hash of words under a key
abbrev pub sip_hash : List ℕ → List ℕ → ℕ
sip_hash key words = finished (sip_word (fold sip_word (keyed key) words) (8 * (length words % 32) * 2 ^ 56))
