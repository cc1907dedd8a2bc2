-- The answer to `packet HEX`: the packet at the start of the bytes, of the version in its first byte (RFC 791,
-- section 3.1; RFC 8200, section 3).
use Rattle.std.specs.Prelude.{ℕ, ◌==◌, List, ◌++◌, length, Bool, Option, None, Some, if◌then◌else◌, codes}
use Rattle.std.specs.Fmt.{decimal}
use Rattle.ip_base.specs.Ipv4Header.{version}
use Rattle.ip_base.specs.declared.len_source.LenSource.{LenSource}
use Rattle.ip_base.specs.Names.{len_source_name}
use Rattle.ip_base.specs.declared.err.ip.slice_error.SliceError.{SliceError}
use Rattle.ip_spec.specs.Chain.{bytes_of}
use Rattle.etherparse_ip.specs.Packet.{Parts}
use Rattle.etherparse_ip.specs.PartsIn.{ipv4_parts_in, ipv6_parts_in}
use Rattle.etherparse_ip.specs.PacketFault.{ip_fault}
use Rattle.ipexts_tool.specs.Faults.{packet_fault_text}
use Rattle.ipexts_tool.specs.Parts.{ok_line}

-- `ipv4 header H exts E payload P`: the length of each part in bytes
abbrev pub lengths_line : List ℕ → ℕ → ℕ → ℕ → List ℕ
lengths_line name header exts payload =
    name ++ codes " header " ++ decimal header ++ codes " exts " ++ decimal exts
    ++ codes " payload " ++ decimal payload ++ codes "\n"

-- `yes` or `no`
abbrev pub yes_or_no : Bool → List ℕ
yes_or_no b = if b then codes "yes" else codes "no"

-- `next N fragmented yes source S`: the payload's number, whether it is a fragment, and the source of its length
abbrev pub payload_line : ℕ → Bool → LenSource → List ℕ
payload_line number fragmented source =
    codes "next " ++ decimal number ++ codes " fragmented " ++ yes_or_no fragmented
    ++ codes " source " ++ len_source_name source ++ codes "\n"

-- the parts of a packet
abbrev pub parts_lines : List ℕ → Parts → List ℕ
parts_lines name p =
    lengths_line name (length p.base) (length (bytes_of p.headers)) (length p.payload)
    ++ payload_line p.number p.fragmented p.source ++ ok_line

-- the parts of the packet at the start of bytes
abbrev pub packet_part_lines : List ℕ → List ℕ
packet_part_lines bytes =
    if version bytes == 4 then parts_lines (codes "ipv4") (ipv4_parts_in bytes)
    else parts_lines (codes "ipv6") (ipv6_parts_in bytes)

-- the error of a packet
abbrev pub fault_line : SliceError → List ℕ
fault_line fault = packet_fault_text fault ++ codes "\n"

-- the packet's parts, or its error
abbrev pub packet_lines : Option SliceError → List ℕ → List ℕ
packet_lines None bytes = packet_part_lines bytes
packet_lines (Some fault) bytes = fault_line fault

unfoldable pub packet_answer : List ℕ → List ℕ
packet_answer bytes = packet_lines (ip_fault bytes) bytes
