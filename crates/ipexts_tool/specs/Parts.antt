-- Parts of answers that several forms share.
use Rattle.std.specs.Prelude.{ℕ, ◌+◌, ◌==◌, List, [], ◌∷◌, ◌++◌, length, Option, None, Some, if◌then◌else◌, codes}
use Rattle.std.specs.Fmt.{decimal}
use Rattle.hex.specs.Hex.{encode_lower}
use Rattle.ip_base.specs.declared.err.layer.Layer.{Layer}
use Rattle.ip_ext_headers.specs.declared.err.ip_auth.header_slice_error.HeaderSliceError.{HeaderSliceError as AuthSliceError}
use Rattle.ip_ext_chains.specs.Chain.{ExtHeader}
use Rattle.ip_ext_slices.specs.ChainFault.{Fault}
use Rattle.ip_ext_chains.specs.Names.{layer_name}
use Rattle.ip_ext_chains.specs.Numbers.{HOP_BY_HOP, ROUTING, FRAGMENT, AUTHENTICATION, DESTINATION_OPTIONS}
use Rattle.ipexts_tool.specs.Faults.{auth_slice_fault_text, chain_fault_text}

-- the name of the headers of a number
abbrev pub header_name : ℕ → List ℕ
header_name n =
    if n == HOP_BY_HOP then codes "hopopt"
    else if n == ROUTING then codes "route"
    else if n == FRAGMENT then codes "frag"
    else if n == AUTHENTICATION then codes "auth"
    else if n == DESTINATION_OPTIONS then codes "dstopts"
    else []

-- `offset name length`
abbrev pub header_line : ℕ → ℕ → ℕ → List ℕ
header_line offset number len =
    decimal offset ++ codes " " ++ header_name number ++ codes " " ++ decimal len ++ codes "\n"

-- a line per header; the first starts at this offset, and each later one where the one before it ends
abbrev pub header_lines : ℕ → List ExtHeader → List ℕ
header_lines offset [] = []
header_lines offset (h ∷ headers) =
    header_line offset h.number (length h.bytes) ++ header_lines (offset + length h.bytes) headers

-- `next N rest L`: the number of what follows the headers, and its length in bytes
abbrev pub next_line : ℕ → ℕ → List ℕ
next_line number len =
    codes "next " ++ decimal number ++ codes " rest " ++ decimal len ++ codes "\n"

-- `written HEX`: the bytes written, in lower-case digits, or `-` for none
abbrev pub written_line : List ℕ → List ℕ
written_line [] = codes "written -\n"
written_line (b ∷ bytes) = codes "written " ++ encode_lower (b ∷ bytes) ++ codes "\n"

-- no error
abbrev pub ok_line : List ℕ
ok_line = codes "ok\n"

-- an error's text and its layer
abbrev pub layered_line : List ℕ → Layer → List ℕ
layered_line fault layer = fault ++ codes " in " ++ layer_name layer ++ codes "\n"

-- the end of an IPv6 chain
abbrev pub chain_end_line : Option Fault → List ℕ
chain_end_line None = ok_line
chain_end_line (Some fault) = layered_line (chain_fault_text fault.0) fault.1

-- the end of a chain of IPv4 extension headers
abbrev pub ipv4_end_line : Option AuthSliceError → List ℕ
ipv4_end_line None = ok_line
ipv4_end_line (Some fault) = auth_slice_fault_text fault ++ codes "\n"
