-- The answer to `dissect HEX`: the parts of the packet at the start of the bytes, and why its headers end there.
use Rattle.std.specs.Prelude.{ℕ, ◌==◌, List, [], ◌++◌, length, Option, None, Some, if◌then◌else◌, codes}
use Rattle.std.specs.Fmt.{decimal}
use Rattle.ip_base.specs.declared.err.layer.Layer.{Layer}
use Rattle.ip_base.specs.declared.err.len_error.LenError.{LenError}
use Rattle.ip_base.specs.Names.{layer_name}
use Rattle.ip_dissect.specs.Dissection.{DissectedParts, dissected}
use Rattle.ip_dissect.specs.declared.fragment.Fragment.{Fragment}
use Rattle.ip_dissect.specs.declared.fragment.FragmentKind.{FragmentKind}
use Rattle.ip_dissect.specs.declared.fragment.FragmentKind.TheVariants.{Atomic, First, Middle, Last}
use Rattle.ip_dissect.specs.declared.end.End.{End}
use Rattle.ip_dissect.specs.declared.end.End.TheVariants.{Payload, LaterFragment, Truncated, Fault}
use Rattle.ipexts_tool.specs.Faults.{len_text, packet_fault_text}
use Rattle.ipexts_tool.specs.Parts.{header_lines, next_line}

-- the length that a packet states, or `none`
abbrev pub stated_text : Option ℕ → List ℕ
stated_text None = codes "none"
stated_text (Some t) = decimal t

-- `ipv4 base H stated T` or `ipv6 ..`: the length of the base header, and the length that it states, in bytes
abbrev pub base_line : ℕ → ℕ → Option ℕ → List ℕ
base_line version len stated =
    codes "ipv" ++ decimal version ++ codes " base " ++ decimal len ++ codes " stated " ++ stated_text stated
    ++ codes "\n"

abbrev pub kind_name : FragmentKind → List ℕ
kind_name Atomic = codes "atomic"
kind_name First = codes "first"
kind_name Middle = codes "middle"
kind_name Last = codes "last"

-- `fragment none`, or `fragment KIND id I offset O` with the offset in bytes
abbrev pub fragment_line : Option Fragment → List ℕ
fragment_line None = codes "fragment none\n"
fragment_line (Some f) =
    codes "fragment " ++ kind_name f.kind ++ codes " id " ++ decimal f.identification ++ codes " offset "
    ++ decimal f.offset ++ codes "\n"

-- `missing M padding Q`: stated bytes that are not here, and bytes after the packet
abbrev pub missing_line : ℕ → ℕ → List ℕ
missing_line missing padding =
    codes "missing " ++ decimal missing ++ codes " padding " ++ decimal padding ++ codes "\n"

-- the IPv6 extension header that an error is in, if it is in one
abbrev pub in_header : Option Layer → List ℕ
in_header None = []
in_header (Some layer) = codes " in " ++ layer_name layer

-- a header is incomplete here
abbrev pub truncated_text : LenError → List ℕ
truncated_text e = codes "truncated " ++ len_text e

-- why the headers end
abbrev pub end_line : End → List ℕ
end_line Payload = codes "payload\n"
end_line LaterFragment = codes "later fragment\n"
end_line (Truncated e header) = truncated_text e ++ in_header header ++ codes "\n"
end_line (Fault e header) = packet_fault_text e ++ in_header header ++ codes "\n"

-- the lines for a packet with a base header
abbrev pub dissected_lines : DissectedParts → List ℕ
dissected_lines p =
    base_line p.version (length p.base) p.stated
    ++ header_lines (length p.base) p.headers
    ++ fragment_line p.fragment
    ++ next_line p.number (length p.payload)
    ++ missing_line p.missing (length p.padding)
    ++ end_line p.end

-- the lines for any packet: without a base header only the last one
abbrev pub lines_for : DissectedParts → List ℕ
lines_for p = if p.version == 0 then end_line p.end else dissected_lines p

unfoldable pub dissect_answer : List ℕ → List ℕ
dissect_answer bytes = lines_for (dissected bytes)
