-- What the text of a filter needs, by codes for C callers.
use Rattle.std.specs.Prelude.{ℕ}
use Rattle.ip_filter.specs.declared.parse_error.Expected.{Expected}
use Rattle.ip_filter.specs.declared.parse_error.Expected.TheVariants as expected

-- what is expected in a text
abbrev pub expected_code : Expected → ℕ
expected_code expected.Operand = 1
expected_code expected.OperatorOrEnd = 2
expected_code expected.OperatorOrClose = 3
expected_code expected.Version = 4
expected_code expected.Header = 5
expected_code expected.Protocol = 6
expected_code expected.Comparison = 7
expected_code expected.Count = 8
expected_code expected.Number = 9
expected_code expected.Network = 10
expected_code expected.FewerTerms = 11
expected_code expected.LessNesting = 12
expected_code expected.Byte = 13
expected_code expected.NetworkOrPort = 14
expected_code expected.Address = 15
expected_code expected.Ports = 16
expected_code expected.TcpFlags = 17
expected_code expected.IcmpType = 18
expected_code expected.Icmp6Type = 19
expected_code expected.Source = 20
expected_code expected.Destination = 21
expected_code expected.Mask = 22
expected_code expected.MaskOrComparison = 23
expected_code expected.Bits = 24
expected_code expected.JoinedBits = 25
expected_code expected.JoinedBitsEnd = 26
