-- The parts of the answer to `exts6 N HEX`, joined.
use Rattle.ip_spec.proofs.Common.{◌≡◌, ℕ, List, [], ◌++◌, length, append-nil, append_assoc, Option, ExtHeader}
use Rattle.ip_base.specs.declared.err.layer.Layer.{Layer}
use Rattle.ip_ext_slices.specs.Longest.{longest_chain}
use Rattle.ip_ext_slices.specs.ChainAnswer.{IsChainAnswer}
use Rattle.ip_ext_slices.specs.declared.err.ipv6_exts.header_slice_error.HeaderSliceError.{HeaderSliceError}
use Rattle.ipexts_tool.specs.Exts6.{exts6_answer}
use Rattle.ipexts_tool.specs.Parts.{header_lines, next_line, chain_end_line}

four_parts : (a b c d : List ℕ) → ((a ++ b) ++ c) ++ d ≡ a ++ ((b ++ c) ++ d)
four_parts a b c d = simp append_assoc

-- once no header is left, the headers' lines, what follows them and the end of the chain are the answer
pub answer_joined : (old text next new : List ℕ) (n m offset x : ℕ) (s rest t : List ℕ) (left : List ExtHeader) (fault : Option (HeaderSliceError × Layer))
    → text ++ header_lines offset left ≡ old ++ header_lines 0 (longest_chain n s) → left ≡ [] → x ≡ n → t ≡ s → IsChainAnswer x t (longest_chain x t) m rest fault
    → next ≡ text ++ next_line m (length rest) → new ≡ next ++ chain_end_line fault → new ≡ old ++ exts6_answer n s
answer_joined old text next new n m offset x s rest t left fault lines none start input b e k =
    let a = rw (start, input) at b in
    let text_is : text ≡ old ++ header_lines 0 (longest_chain n s) = cc (append-nil text) in
    rw (k, e, text_is, a.number, a.rest, a.fault) (four_parts old _ _ _)
