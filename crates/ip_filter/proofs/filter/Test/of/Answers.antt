use Rattle.ip_spec.proofs.Common.{rules, sym, ap, ◌∙◌, ◌&&◌}
use Rattle.ip_codes.specs.Codes.{layer_code}
use Rattle.ip_dissect.specs.Dissection.{dissected}
use Rattle.ip_filter.specs.Truth.{holds, is_in_layer}
use Rattle.ip_filter.proofs.MaskLemmas.{by_flags, fragment_mask, first_mask, later_mask, truncated_mask, incomplete_mask, faults_mask}
use Rattle.ip_filter.proofs.TestLemmas.{by_identification, by_layer, by_source_port, by_destination_port, by_port, by_icmp_type, by_icmp_code, by_icmp6_type, by_icmp6_code, by_spi, by_version, by_segments_left}
use Rattle.ip_filter.proofs.filter.Test.of.Goals as goal

pub returns-in-Fragment-clause-meets : goal.returns-in-Fragment-clause-meets
returns-in-Fragment-clause-meets c = λ s. by_flags c.of_flags-in-Fragment.result _ (dissected s) c.of_flags-in-Fragment.ensures.kind c.of_flags-in-Fragment.ensures.number ∙ fragment_mask s ∙ ap (λ t. holds t (dissected s)) (sym c.in-Fragment.is)

pub returns-in-FirstFragment-clause-meets : goal.returns-in-FirstFragment-clause-meets
returns-in-FirstFragment-clause-meets c = λ s. by_flags c.of_flags-in-FirstFragment.result _ (dissected s) c.of_flags-in-FirstFragment.ensures.kind c.of_flags-in-FirstFragment.ensures.number ∙ first_mask s ∙ ap (λ t. holds t (dissected s)) (sym c.in-FirstFragment.is)

pub returns-in-LaterFragment-clause-meets : goal.returns-in-LaterFragment-clause-meets
returns-in-LaterFragment-clause-meets c = λ s. by_flags c.of_flags-in-LaterFragment.result _ (dissected s) c.of_flags-in-LaterFragment.ensures.kind c.of_flags-in-LaterFragment.ensures.number ∙ later_mask s ∙ ap (λ t. holds t (dissected s)) (sym c.in-LaterFragment.is)

pub returns-in-Truncated-clause-meets : goal.returns-in-Truncated-clause-meets
returns-in-Truncated-clause-meets c = λ s. by_flags c.of_flags-in-Truncated.result _ (dissected s) c.of_flags-in-Truncated.ensures.kind c.of_flags-in-Truncated.ensures.number ∙ truncated_mask s ∙ ap (λ t. holds t (dissected s)) (sym c.in-Truncated.is)

pub returns-in-Incomplete-clause-meets : goal.returns-in-Incomplete-clause-meets
returns-in-Incomplete-clause-meets c = λ s. by_flags c.of_flags-in-Incomplete.result _ (dissected s) c.of_flags-in-Incomplete.ensures.kind c.of_flags-in-Incomplete.ensures.number ∙ incomplete_mask s ∙ ap (λ t. holds t (dissected s)) (sym c.in-Incomplete.is)

pub returns-in-Fault-clause-meets : goal.returns-in-Fault-clause-meets
returns-in-Fault-clause-meets c = λ s. by_flags c.of_flags-in-Fault.result _ (dissected s) c.of_flags-in-Fault.ensures.kind c.of_flags-in-Fault.ensures.number ∙ faults_mask s ∙ ap (λ t. holds t (dissected s)) (sym c.in-Fault.is)

pub returns-in-IcmpCode-clause-meets : goal.returns-in-IcmpCode-clause-meets
returns-in-IcmpCode-clause-meets c = λ s. by_icmp_code c.of_number-in-IcmpCode.result c.in-IcmpCode.number (dissected s) c.of_number-in-IcmpCode.ensures.kind (search rules) ∙ ap (λ t. holds t (dissected s)) (sym c.in-IcmpCode.is)

pub returns-in-Icmp6Type-clause-meets : goal.returns-in-Icmp6Type-clause-meets
returns-in-Icmp6Type-clause-meets c = λ s. by_icmp6_type c.of_number-in-Icmp6Type.result c.in-Icmp6Type.number (dissected s) c.of_number-in-Icmp6Type.ensures.kind (search rules) ∙ ap (λ t. holds t (dissected s)) (sym c.in-Icmp6Type.is)

pub returns-in-Icmp6Code-clause-meets : goal.returns-in-Icmp6Code-clause-meets
returns-in-Icmp6Code-clause-meets c = λ s. by_icmp6_code c.of_number-in-Icmp6Code.result c.in-Icmp6Code.number (dissected s) c.of_number-in-Icmp6Code.ensures.kind (search rules) ∙ ap (λ t. holds t (dissected s)) (sym c.in-Icmp6Code.is)

pub returns-in-Icmp-clause-meets : goal.returns-in-Icmp-clause-meets
returns-in-Icmp-clause-meets c =
    let is = c.of_version_leading_to.ensures in
    λ s. by_version c.of_version_leading_to.result _ _ (dissected s) is.kind is.version is.number ∙ ap (λ t. holds t (dissected s)) (sym c.in-Icmp.is)

pub returns-in-Icmp6-clause-meets : goal.returns-in-Icmp6-clause-meets
returns-in-Icmp6-clause-meets c =
    let is = c.of_version_leading_to-in-Icmp6.ensures in
    λ s. by_version c.of_version_leading_to-in-Icmp6.result _ _ (dissected s) is.kind is.version is.number ∙ ap (λ t. holds t (dissected s)) (sym c.in-Icmp6.is)

pub returns-in-SecurityParameters-clause-meets : goal.returns-in-SecurityParameters-clause-meets
returns-in-SecurityParameters-clause-meets c = λ s. by_spi c.of_number-in-SecurityParameters.result c.in-SecurityParameters.spi (dissected s) c.of_number-in-SecurityParameters.ensures.kind (search rules) ∙ ap (λ t. holds t (dissected s)) (sym c.in-SecurityParameters.is)

pub returns-in-SegmentsLeft-clause-meets : goal.returns-in-SegmentsLeft-clause-meets
returns-in-SegmentsLeft-clause-meets c =
    let is = c.of_segments_left.ensures in
    λ s. by_segments_left c.of_segments_left.result c.in-SegmentsLeft.comparison c.in-SegmentsLeft.number (dissected s) is.kind is.comparison is.number ∙ ap (λ t. holds t (dissected s)) (sym c.in-SegmentsLeft.is)

pub returns-in-Identification-clause-meets : goal.returns-in-Identification-clause-meets
returns-in-Identification-clause-meets c = λ s. by_identification c.of_number-in-Identification.result c.in-Identification.identification (dissected s) c.of_number-in-Identification.ensures.kind (search rules) ∙ ap (λ t. holds t (dissected s)) (sym c.in-Identification.is)

pub returns-in-SourcePort-clause-meets : goal.returns-in-SourcePort-clause-meets
returns-in-SourcePort-clause-meets c =
    let is = c.of_ports.ensures in
    λ s. by_source_port c.of_ports.result c.in-SourcePort.ports (dissected s) is.kind is.first is.last ∙ ap (λ t. holds t (dissected s)) (sym c.in-SourcePort.is)

pub returns-in-DestinationPort-clause-meets : goal.returns-in-DestinationPort-clause-meets
returns-in-DestinationPort-clause-meets c =
    let is = c.of_ports-in-DestinationPort.ensures in
    λ s. by_destination_port c.of_ports-in-DestinationPort.result c.in-DestinationPort.ports (dissected s) is.kind is.first is.last ∙ ap (λ t. holds t (dissected s)) (sym c.in-DestinationPort.is)

pub returns-in-Port-clause-meets : goal.returns-in-Port-clause-meets
returns-in-Port-clause-meets c =
    let is = c.of_ports-in-Port.ensures in
    λ s. by_port c.of_ports-in-Port.result c.in-Port.ports (dissected s) is.kind is.first is.last ∙ ap (λ t. holds t (dissected s)) (sym c.in-Port.is)

pub returns-in-IcmpType-clause-meets : goal.returns-in-IcmpType-clause-meets
returns-in-IcmpType-clause-meets c = λ s. by_icmp_type c.of_number-in-IcmpType.result c.in-IcmpType.number (dissected s) c.of_number-in-IcmpType.ensures.kind (search rules) ∙ ap (λ t. holds t (dissected s)) (sym c.in-IcmpType.is)

pub returns-in-TruncatedAt-clause-meets : goal.returns-in-TruncatedAt-clause-meets
returns-in-TruncatedAt-clause-meets c =
    let is = c.of_layer.ensures in
    λ s. by_layer c.of_layer.result _ _ (dissected s) is.kind is.layer is.flags
    ∙ ap (λ b. b && is_in_layer (layer_code c.in-TruncatedAt.layer) (dissected s).version (dissected s).end) (truncated_mask s) ∙ ap (λ t. holds t (dissected s)) (sym c.in-TruncatedAt.is)

pub returns-in-FaultAt-clause-meets : goal.returns-in-FaultAt-clause-meets
returns-in-FaultAt-clause-meets c =
    let is = c.of_layer-in-FaultAt.ensures in
    λ s. by_layer c.of_layer-in-FaultAt.result _ _ (dissected s) is.kind is.layer is.flags
    ∙ ap (λ b. b && is_in_layer (layer_code c.in-FaultAt.layer) (dissected s).version (dissected s).end) (c.fault_mask-in-FaultAt.ensures s) ∙ ap (λ t. holds t (dissected s)) (sym c.in-FaultAt.is)

pub returns-in-Access-clause-meets : goal.returns-in-Access-clause-meets
returns-in-Access-clause-meets c = λ s. c.of_access.ensures.meets (dissected s) ∙ ap (λ t. holds t (dissected s)) (sym c.in-Access.is)
