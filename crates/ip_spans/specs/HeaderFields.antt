-- The fields of single headers, as plain numbers.
use Rattle.std.specs.Prelude.{◌≡◌, ℕ, ◌*◌, List, length}
use Rattle.ip_base.specs.Prefix.{IsPrefix}
use Rattle.ip_spec.specs.Header.{IsFragmentHeader, IsAuthHeader}
use Rattle.ip_spec.specs.Fields.{next_header, fragment_fields, auth_fields}
use Rattle.ip_spans.specs.ChainParts.{flag}
use Rattle.ip_spans.specs.declared.header_fields.FragmentFields.{FragmentFields}
use Rattle.ip_spans.specs.declared.header_fields.AuthFields.{AuthFields}

-- Bytes s start with a fragment header with these fields (RFC 8200, section 4.5), of which the offset is in bytes.
pub record BeginsWithFragmentHeader (s : List ℕ) (x : FragmentFields) : Type 0 where
  pub bytes : List ℕ
  pub header : IsFragmentHeader bytes
  pub prefix : IsPrefix bytes s
  pub fields : x ≡ record {
    identification = (fragment_fields bytes).identification;
    fragment_offset = 8 * (fragment_fields bytes).fragment_offset;
    more_fragments = flag (fragment_fields bytes).more_fragments;
    next_header = next_header bytes;
  }

-- Bytes s start with an authentication header with these fields (RFC 4302, section 2).
pub record BeginsWithAuthHeader (s : List ℕ) (x : AuthFields) : Type 0 where
  pub header : List ℕ
  pub is_header : IsAuthHeader header
  pub prefix : IsPrefix header s
  pub fields : x ≡ record {
    len = length header;
    spi = (auth_fields header).spi;
    sequence_number = (auth_fields header).sequence_number;
    next_header = next_header header;
  }
