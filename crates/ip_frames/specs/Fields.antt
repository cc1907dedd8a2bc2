-- What was found in a frame as plain numbers.
use Rattle.std.specs.Prelude.{◌≡◌, ℕ, List, Option, Some, None, unwrap_or, option_and_then}
use Rattle.ip_frames.specs.Numbers.{ip_version}
use Rattle.ip_frames.specs.Headers.{LeadsTo}
use Rattle.ip_frames.specs.declared.protocol_number.ProtocolNumber.{ProtocolNumber}
use Rattle.ip_frames.specs.declared.protocol_number.ProtocolNumber.TheVariants.{EtherType, Llc, Ppp, Nlpid, Family, Ieee80211}
use Rattle.ip_frames.specs.declared.frame_contents.FrameEnd.{FrameEnd}
use Rattle.ip_frames.specs.declared.frame_contents.FrameEnd.TheVariants.{Ip, NotIp, Truncated}
use Rattle.ip_frames.specs.declared.frame_contents.FrameContents.{FrameContents}
use Rattle.ip_frames.specs.declared.frame_fields.FrameFields.{FrameFields}
use Rattle.ip_frames.specs.declared.header.Announced.{Announced}

abbrev pub end_code : FrameEnd → ℕ
end_code Ip = 0
end_code NotIp = 1
end_code (Truncated n) = 2

abbrev pub needed_of : FrameEnd → ℕ
needed_of Ip = 0
needed_of NotIp = 0
needed_of (Truncated n) = n

abbrev pub number_kind : Option ProtocolNumber → ℕ
number_kind None = 0
number_kind (Some (EtherType n)) = 1
number_kind (Some (Llc n)) = 2
number_kind (Some (Ppp n)) = 3
number_kind (Some (Nlpid n)) = 4
number_kind (Some (Family n)) = 5
number_kind (Some (Ieee80211 n)) = 6

abbrev pub number_value : Option ProtocolNumber → ℕ
number_value None = 0
number_value (Some (EtherType n)) = n
number_value (Some (Llc n)) = n
number_value (Some (Ppp n)) = n
number_value (Some (Nlpid n)) = n
number_value (Some (Family n)) = n
number_value (Some (Ieee80211 n)) = n

abbrev pub frame_fields : FrameContents → FrameFields
frame_fields x = record {
  offset = x.offset;
  needed = needed_of x.end;
  vlan_count = x.vlans.count;
  number = number_value x.number;
  first_vlan = x.vlans.first;
  second_vlan = x.vlans.second;
  number_kind = number_kind x.number;
  version = unwrap_or (option_and_then ip_version x.number) 0;
  end = end_code x.end;
}

-- Bytes b have headers as announced, which lead to what has these fields.
pub record LeadsToFields (what : Announced) (n : Option ProtocolNumber) (b : List ℕ) (f : FrameFields) : Type 0 where
  pub contents : FrameContents
  pub leads : LeadsTo what n b contents
  pub fields : f ≡ frame_fields contents
