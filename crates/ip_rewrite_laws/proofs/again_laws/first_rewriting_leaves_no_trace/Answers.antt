use Rattle.ip_rewrite_laws.proofs.AgainLemmas.{again, cleared_again, headers_again, inserted_again, ordered_again, payload_again, stated, without_again}
use Rattle.ip_rewrite_laws.proofs.again_laws.first_rewriting_leaves_no_trace.Goals as goal

pub returns : goal.returns
returns x = record {
  again = λ p c d m n q y alike. again p c m q n y d alike;
  stated = λ s c m q room whole states fits. stated s c m q room whole states fits;
  linked = λ p c d e m n q y old new alike. headers_again p c m q n y old new d e alike;
  without = λ p c m n q y w old new. without_again p c m q n y old new w;
  inserted = λ p c m n q y i h old new. inserted_again p c m q n y old new i h;
  cleared = λ p c m n q y old new. cleared_again p c m q n y old new;
  ordered = λ p c m n q y old new. ordered_again p c m q n y old new;
  payload = λ p c m n q y old new. payload_again p c m q n y old new;
}
