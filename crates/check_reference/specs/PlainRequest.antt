-- A request parsed by the plain program, as the tool's request.
use Rattle.ipexts_tool.specs.Request.{Request, Exts6, Exts4, Rewrite6, RewriteAll6, Packet, Dissect}
use Rattle.check_reference.specs.declared.answers.PlainRequest.{PlainRequest}
use Rattle.check_reference.specs.declared.answers.PlainRequest.TheVariants as plain

abbrev pub asked_by : PlainRequest → Request
asked_by (plain.Exts6 number bytes) = Exts6 (number, bytes.items)
asked_by (plain.Exts4 number bytes) = Exts4 (number, bytes.items)
asked_by (plain.Rewrite6 number bytes) = Rewrite6 (number, bytes.items)
asked_by (plain.RewriteAll6 number bytes) = RewriteAll6 (number, bytes.items)
asked_by (plain.Packet bytes) = Packet bytes.items
asked_by (plain.Dissect bytes) = Dissect bytes.items
