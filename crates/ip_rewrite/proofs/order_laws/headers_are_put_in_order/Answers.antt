use Rattle.ip_spec.proofs.Common.{arith}
use Rattle.ip_rewrite.proofs.OrderLemmas.{ordered_permutation}
use Rattle.ip_rewrite.proofs.OrderLawLemmas.{in_order_rises, in_order_same, linked_rises, insertion_rises}
use Rattle.ip_rewrite.proofs.order_laws.headers_are_put_in_order.Goals as goal

pub returns-clause-permutation : goal.returns-clause-permutation
returns-clause-permutation c = λ d. ordered_permutation d

pub returns-clause-ordered : goal.returns-clause-ordered
returns-clause-ordered c = λ d. in_order_rises d

pub returns-clause-linked : goal.returns-clause-linked
returns-clause-linked c = λ d m. linked_rises 0 m d

pub returns-clause-same : goal.returns-clause-same
returns-clause-same c = λ d is. in_order_same 0 d is

pub returns-clause-inserted : goal.returns-clause-inserted
returns-clause-inserted c = λ h d is. insertion_rises 0 h d (omega arith) is
