use Rattle.std.proofs.Common.{◌≡◌, ◌≢◌, ◌++◌, ◌∷◌, [], ℕ, List, refl, sym, ap, ◌∙◌, subst, length}
use Rattle.ip_dissect.specs.Dissection.{DissectedParts, dissected}
use Rattle.ip_dissect.specs.declared.summary.Summary.{Summary}
use Rattle.ip_key_counts.specs.Counts.{counted, keys_counted}
use Rattle.ip_key_counts.specs.Table.{counts_in, room_of, IsTable}
use Rattle.ip_key_counts.specs.declared.key_counts.KeyCounts.{KeyCounts}
use Rattle.ip_chain_counts.specs.Chain.{chain_end, chain_of, keys_of}
use Rattle.ip_chain_counts.specs.KeyBytes.{HasBytes}
use Rattle.ip_chain_counts.proofs.ChainLemmas.{none_counted, one_counted}
use Rattle.ip_chain_counts.proofs.KeyLemmas.{key_made}
use Rattle.ip_chain_counts.proofs.count.ChainVisitorWalkVisitor.end.Goals as goal

pub returns-then-packet-eq0 : goal.returns-then-packet-eq0
returns-then-packet-eq0 c = λ old before.
    let p : DissectedParts = dissected c.args.packet.now.bytes.now in
    let t : KeyCounts = c.args.self.now.counts.now in
    let path : List ℕ = old.path.now in
    let version : c.args.packet.now.summary.version ≡ p.version = ap (λ (o : Summary). o.version) c.args.packet.now.summary_is in
    record {
      same_counts = before.0;
      counts = λ start table. none_counted (room_of t) (counts_in t) path p (sym version ∙ c.if-packet-eq0.true)
          ∙ ap (λ (x : KeyCounts). keys_counted (room_of x) (counts_in x) (keys_of path p)) before.1;
      table = λ table. subst IsTable (sym before.1) table;
      room = ap room_of before.1;
      seed = ap (λ (x : KeyCounts). x.seed) before.1;
    }

pub returns-in-Some : goal.returns-in-Some
returns-in-Some c = λ old before.
    let p : DissectedParts = dissected c.args.packet.now.bytes.now in
    let t : KeyCounts = c.args.self.now.counts.now in
    let path : List ℕ = old.path.now in
    let version : c.args.packet.now.summary.version ≡ p.version = ap (λ (o : Summary). o.version) c.args.packet.now.summary_is in
    let number : c.args.packet.now.summary.next_header.0 ≡ p.number = ap (λ (o : Summary). o.next_header.0) c.args.packet.now.summary_is in
    let ends : c.chain_end-end.result ≡ chain_end p.end = c.chain_end-end.ensures ∙ ap chain_end c.end.ensures in
    let apart : p.version ≢ 0 = λ none. c.if-packet-eq0.false (version ∙ none) in
    let has : HasBytes old.key (path ++ 0 ∷ 0 ∷ 0 ∷ []) → HasBytes c.put.new.self (path ++ chain_of p) = λ start.
    key_made c.args.self.now.key c.put.new.self path p _ _ _ version number ends (before.3 _ start) (c.put.ensures path _ (ap length before.2)) in
    record {
      same_counts = before.0;
      counts = λ start table. c.count.ensures.counts (subst IsTable (sym before.1) table)
          ∙ (ap (λ (k : List ℕ). counted (room_of t) (counts_in t) k 1) (c.in-Some.ensures.there (path ++ chain_of p) (has start))
          ∙ (one_counted (room_of t) (counts_in t) path p apart
          ∙ ap (λ (x : KeyCounts). keys_counted (room_of x) (counts_in x) (keys_of path p)) before.1));
      table = λ table. c.count.ensures.table (subst IsTable (sym before.1) table);
      room = c.count.ensures.room ∙ ap room_of before.1;
      seed = c.count.ensures.seed ∙ ap (λ (x : KeyCounts). x.seed) before.1;
    }

pub returns-in-None : goal.returns-in-None
returns-in-None c = λ old before.
    let p : DissectedParts = dissected c.args.packet.now.bytes.now in
    let t : KeyCounts = c.args.self.now.counts.now in
    let path : List ℕ = old.path.now in
    let version : c.args.packet.now.summary.version ≡ p.version = ap (λ (o : Summary). o.version) c.args.packet.now.summary_is in
    let number : c.args.packet.now.summary.next_header.0 ≡ p.number = ap (λ (o : Summary). o.next_header.0) c.args.packet.now.summary_is in
    let ends : c.chain_end-end.result ≡ chain_end p.end = c.chain_end-end.ensures ∙ ap chain_end c.end.ensures in
    let apart : p.version ≢ 0 = λ none. c.if-packet-eq0.false (version ∙ none) in
    let has : HasBytes old.key (path ++ 0 ∷ 0 ∷ 0 ∷ []) → HasBytes c.put.new.self (path ++ chain_of p) = λ start.
    key_made c.args.self.now.key c.put.new.self path p _ _ _ version number ends (before.3 _ start) (c.put.ensures path _ (ap length before.2)) in
    record {
      same_counts = before.0;
      counts = λ start table. c.count_too_long.ensures.counts (path ++ chain_of p) (c.in-None.ensures.too_many (path ++ chain_of p) (has start) refl) (subst IsTable (sym before.1) table)
          ∙ (one_counted (room_of t) (counts_in t) path p apart
          ∙ ap (λ (x : KeyCounts). keys_counted (room_of x) (counts_in x) (keys_of path p)) before.1);
      table = λ table. c.count_too_long.ensures.table (subst IsTable (sym before.1) table);
      room = c.count_too_long.ensures.room ∙ ap room_of before.1;
      seed = c.count_too_long.ensures.seed ∙ ap (λ (x : KeyCounts). x.seed) before.1;
    }
