use Rattle.std.proofs.Common.{sym, subst}
use Rattle.ip_captures.specs.BlockWriter.{IsSectionHeader}
use Rattle.ip_captures.specs.declared.byte_order.ByteOrder.{ByteOrder}
use Rattle.ip_captures.specs.declared.byte_order.ByteOrder.TheVariants.{LittleEndian, BigEndian}
use Rattle.ip_captures.proofs.WriterLemmas.{is_section, section_bytes}
use Rattle.ip_captures.proofs.byte_order.ByteOrder.section_header.Goals as goal

pub returns-in-LittleEndian : goal.returns-in-LittleEndian
returns-in-LittleEndian c = subst (λ (o : ByteOrder). IsSectionHeader o (section_bytes LittleEndian)) (sym c.in-LittleEndian.is) (is_section LittleEndian)

pub returns-in-BigEndian : goal.returns-in-BigEndian
returns-in-BigEndian c = subst (λ (o : ByteOrder). IsSectionHeader o (section_bytes BigEndian)) (sym c.in-BigEndian.is) (is_section BigEndian)
