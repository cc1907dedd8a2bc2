-- The longest list of blocks that begins some bytes, and what comes next.
use Rattle.std.proofs.Common.{◌≡◌, ℕ, ◌<◌, ◌≤◌, List, [], ◌∷◌, ◌++◌, length, take, drop, ap, arith, refl, inl, inr, ◌∙◌, sym, subst}
use Rattle.std.proofs.lemmas.List.{length-append, take-append-drop, take_at, append_assoc, append-nil, take-append-le}
use Rattle.std.proofs.lemmas.Bool.{false≢true}
use Rattle.std.proofs.lemmas.Bool.Decides.{nat_tests}
use Rattle.std.proofs.lemmas.Option.{same_Some}
use Rattle.std.specs.List.{concat}
use Rattle.std.specs.Prelude.{Some, None, IsSome}
use Rattle.ip_captures.specs.Pieces.{ArePieces, state_after}
use Rattle.ip_captures.specs.Next.{contents_of, error_of}
use Rattle.ip_captures.specs.Block.{Section, IsBlock, AreLongestBlocks, blocks_in, rest_of_blocks, section_after, first_block_len, own_order, total_len, block_error, frame_of_block}
use Rattle.ip_captures.specs.PcapngNext.{IsNextBlock, IsWrong, section_next, record_len_of, block_needed}
use Rattle.ip_captures.specs.declared.err.BlockError.{BlockError}
use Rattle.ip_captures.specs.declared.err.CaptureError.TheVariants as capture
use Rattle.ip_captures.specs.declared.next.Next.{Next}
use Rattle.ip_captures.specs.declared.next.Next.TheVariants as next
use Rattle.ip_captures.proofs.BlockLemmas.{finds_blocks, same_total, same_head_error}
use Rattle.ip_captures.proofs.PieceLemmas.{Finds, first_piece, joined_pieces, no_piece, longest_with_rest, one_longest, first_of_longest, same_first}

module _ (limit room : ℕ) where
  finds : Finds (IsBlock limit room) (first_block_len limit room)
  finds = finds_blocks limit room

  pub joined_blocks : (c : Section) (blocks : List (List ℕ)) (t : List ℕ) → ArePieces (IsBlock limit room) section_after c blocks
      → blocks_in limit room c (concat blocks ++ t) ≡ blocks ++ blocks_in limit room (state_after section_after c blocks) t
  joined_blocks c blocks t a = joined_pieces (IsBlock limit room) section_after (first_block_len limit room) finds c blocks t a

  pub first_block : (c : Section) (b t : List ℕ) → IsBlock limit room c b → blocks_in limit room c (b ++ t) ≡ b ∷ blocks_in limit room (section_after c b) t
  first_block c b t is = first_piece (IsBlock limit room) section_after (first_block_len limit room) finds c (b ++ t) b t is refl

  pub blocks_longest : (c : Section) (s : List ℕ) → AreLongestBlocks limit room c s (blocks_in limit room c s) (rest_of_blocks limit room c s)
  blocks_longest c s = longest_with_rest (IsBlock limit room) section_after (first_block_len limit room) finds c s

  pub one_longest_list : (c : Section) (s : List ℕ) (blocks others : List (List ℕ)) (rest other : List ℕ) → AreLongestBlocks limit room c s blocks rest → AreLongestBlocks limit room c s others other → (others ≡ blocks) × (other ≡ rest)
  one_longest_list c s blocks others rest other k l = one_longest (IsBlock limit room) section_after (first_block_len limit room) finds others blocks c s other rest l k

  pub first_blocks : (c : Section) (s t rest : List ℕ) (blocks others : List (List ℕ)) → AreLongestBlocks limit room c s blocks rest → ArePieces (IsBlock limit room) section_after c others → s ≡ concat others ++ t
      → (more : List (List ℕ)) × (blocks ≡ others ++ more)
  first_blocks c s t rest blocks others l a e = first_of_longest (IsBlock limit room) section_after (first_block_len limit room) finds others blocks c s t [] rest a e (rw append-nil l)

  pub more_blocks : (c : Section) (s t rest other : List ℕ) (blocks others : List (List ℕ)) → AreLongestBlocks limit room c s blocks rest → AreLongestBlocks limit room c (s ++ t) others other
      → (more : List (List ℕ)) × (others ≡ blocks ++ more)
  more_blocks c s t rest other blocks others k l = first_of_longest (IsBlock limit room) section_after (first_block_len limit room) finds blocks others c s rest t other k.pieces k.joined l

  first_at : (c : Section) (s : List ℕ) (k : ℕ) → IsBlock limit room c (take k s) → blocks_in limit room c s ≡ take k s ∷ blocks_in limit room (section_after c (take k s)) (drop k s)
  first_at c s k b = first_piece (IsBlock limit room) section_after (first_block_len limit room) finds c s (take k s) (drop k s) b (sym (take-append-drop k s))

  pub some_block : (offset k : ℕ) (c : Section) (s : List ℕ) (x : Next) → IsNextBlock limit room c offset s x → record_len_of x ≡ Some k → blocks_in limit room c s ≡ take k s ∷ blocks_in limit room (section_next c s x) (drop k s)
  some_block offset k c s (next.Frame f) i e =
      subst (λ (n : ℕ). blocks_in limit room c s ≡ take n s ∷ blocks_in limit room (section_after c (take f.record_len s)) (drop n s)) (same_Some f.record_len k e) (first_at c s f.record_len i.1)
  some_block offset k c s (next.Block b) i e =
      subst (λ (n : ℕ). blocks_in limit room c s ≡ take n s ∷ blocks_in limit room (section_after c (take b.record_len s)) (drop n s)) (same_Some b.record_len k e) (first_at c s b.record_len i.1)
  some_block offset k c s (next.Needs n) i e = cc
  some_block offset k c s next.Ended i e = cc
  some_block offset k c s (next.Error w) i e = cc

  -- a whole block has all the bytes that are needed, and nothing is wrong with it
  enough_there : (c : Section) (p q : List ℕ) (n : ℕ) → IsBlock limit room c p → length (p ++ q) < n → n ≡ block_needed c (p ++ q) → ⊥
  enough_there c p q n b l e =
      let total : total_len (own_order c.order (p ++ q)) (p ++ q) ≡ length p = same_total p q b.head c.order ∙ sym b.len in
      let longer = length-append p q in
      let head = b.head in
      grind (arith, nat_tests, total, longer, head, l, e)

  right_there : (c : Section) (p q : List ℕ) (w : BlockError) → IsBlock limit room c p → IsWrong limit room c (p ++ q) w → ⊥
  right_there c p q w b (inl e) = let x : Some w ≡ None = sym e ∙ same_head_error p q b.head limit c.order ∙ b.head_right in cc
  right_there c p q w b (inr e) =
      let total : total_len (own_order c.order (p ++ q)) (p ++ q) ≡ length p = same_total p q b.head c.order ∙ sym b.len in
      let cut : take (total_len (own_order c.order (p ++ q)) (p ++ q)) (p ++ q) ≡ p = take_at p q _ (sym total) in
      let x : Some w ≡ None = sym e.2 ∙ ap (block_error room c) cut ∙ b.right in
      cc

  none_there : (offset : ℕ) (c : Section) (p q : List ℕ) (x : Next) → IsBlock limit room c p → IsNextBlock limit room c offset (p ++ q) x → record_len_of x ≡ None → ⊥
  none_there offset c p q (next.Frame f) b i e = let n : Some f.record_len ≡ None = e in cc
  none_there offset c p q (next.Block k) b i e = let n : Some k.record_len ≡ None = e in cc
  none_there offset c p q (next.Needs n) b i e = enough_there c p q n b i.1 i.2
  none_there offset c p q next.Ended b i e = let head = b.head in absurd (omega (arith, ap length i, length-append p q, head))
  none_there offset c p q (next.Error w) b i e = right_there c p q i.1.0 b i.1.2

  pub no_block : (offset : ℕ) (c : Section) (s : List ℕ) (x : Next) → IsNextBlock limit room c offset s x → record_len_of x ≡ None → blocks_in limit room c s ≡ []
  no_block offset c s x i e =
      no_piece (IsBlock limit room) section_after (first_block_len limit room) finds c s
      (λ b. none_there offset c b.0 b.1 x b.2 (subst (λ (t : List ℕ). IsNextBlock limit room c offset t x) b.3 i) e)

  split_more : (s t : List ℕ) (k : ℕ) → s ++ t ≡ take k s ++ (drop k s ++ t)
  split_more s t k = ap (λ x. x ++ t) (sym (take-append-drop k s)) ∙ append_assoc (take k s) (drop k s) t

  same_block : (c : Section) (s t : List ℕ) (k j : ℕ) → IsBlock limit room c (take k s) → IsBlock limit room c (take j (s ++ t)) → take k s ≡ take j (s ++ t)
  same_block c s t k j b d =
      same_first (IsBlock limit room) section_after (first_block_len limit room) finds c (take k s) (take j (s ++ t)) (drop k s ++ t) (drop j (s ++ t)) b d
      (sym (split_more s t k) ∙ sym (take-append-drop j (s ++ t)))

  block_stays : (offset : ℕ) (c : Section) (s t : List ℕ) (k : ℕ) (y : Next) → IsBlock limit room c (take k s) → IsNextBlock limit room c offset (s ++ t) y → record_len_of y ≡ None → ⊥
  block_stays offset c s t k y b i e = none_there offset c (take k s) (drop k s ++ t) y b (subst (λ (u : List ℕ). IsNextBlock limit room c offset u y) (split_more s t k) i) e

  pub same_frame : (offset : ℕ) (c : Section) (s t : List ℕ) (x y : Next) → IsNextBlock limit room c offset s x → IsNextBlock limit room c offset (s ++ t) y → IsSome (contents_of x) → contents_of y ≡ contents_of x
  same_frame offset c s t (next.Frame f) (next.Frame g) i j some = sym j.2 ∙ ap (frame_of_block c) (sym (same_block c s t f.record_len g.record_len i.1 j.1)) ∙ i.2
  same_frame offset c s t (next.Frame f) (next.Block b) i j some = sym j.2 ∙ ap (frame_of_block c) (sym (same_block c s t f.record_len b.record_len i.1 j.1)) ∙ i.2
  same_frame offset c s t (next.Frame f) (next.Needs n) i j some = absurd (block_stays offset c s t f.record_len (next.Needs n) i.1 j refl)
  same_frame offset c s t (next.Frame f) next.Ended i j some = absurd (block_stays offset c s t f.record_len next.Ended i.1 j refl)
  same_frame offset c s t (next.Frame f) (next.Error e) i j some = absurd (block_stays offset c s t f.record_len (next.Error e) i.1 j refl)
  same_frame offset c s t (next.Block b) y i j some = absurd (false≢true some)
  same_frame offset c s t (next.Needs n) y i j some = absurd (false≢true some)
  same_frame offset c s t next.Ended y i j some = absurd (false≢true some)
  same_frame offset c s t (next.Error e) y i j some = absurd (false≢true some)

  -- what is wrong with the first bytes is wrong with more
  wrong_more : (c : Section) (s t : List ℕ) (w : BlockError) → 12 ≤ length s → IsWrong limit room c s w → IsWrong limit room c (s ++ t) w
  wrong_more c s t w h (inl e) = inl (same_head_error s t h limit c.order ∙ e)
  wrong_more c s t w h (inr e) =
      let total = same_total s t h c.order in
      let cut : take (total_len (own_order c.order (s ++ t)) (s ++ t)) (s ++ t) ≡ take (total_len (own_order c.order s) s) s =
      ap (λ n. take n (s ++ t)) total ∙ take-append-le (total_len (own_order c.order s) s) s t e.1 in
      inr (same_head_error s t h limit c.order ∙ e.0, omega (arith, total, e.1, length-append s t), ap (block_error room c) cut ∙ e.2)

  one_wrong : (c : Section) (s : List ℕ) (v w : BlockError) → IsWrong limit room c s v → IsWrong limit room c s w → v ≡ w
  one_wrong c s v w (inl d) (inl e) = same_Some v w (sym d ∙ e)
  one_wrong c s v w (inl d) (inr e) = let x : Some v ≡ None = sym d ∙ e.0 in cc
  one_wrong c s v w (inr d) (inl e) = let x : Some w ≡ None = sym e ∙ d.0 in cc
  one_wrong c s v w (inr d) (inr e) = same_Some v w (sym d.2 ∙ e.2)

  -- nothing but an error comes next where something is wrong
  wrong_stays : (offset : ℕ) (c : Section) (s : List ℕ) (w : BlockError) (y : Next) → 12 ≤ length s → IsWrong limit room c s w → IsNextBlock limit room c offset s y → error_of y ≡ Some (capture.Block offset w)
  wrong_stays offset c s w (next.Frame f) h v i = absurd (right_there c (take f.record_len s) (drop f.record_len s) w i.1 (subst (λ (t : List ℕ). IsWrong limit room c t w) (sym (take-append-drop f.record_len s)) v))
  wrong_stays offset c s w (next.Block b) h v i = absurd (right_there c (take b.record_len s) (drop b.record_len s) w i.1 (subst (λ (t : List ℕ). IsWrong limit room c t w) (sym (take-append-drop b.record_len s)) v))
  wrong_stays offset c s w (next.Needs n) h (inl e) i = let x : Some w ≡ None = sym e ∙ i.3 h in cc
  wrong_stays offset c s w (next.Needs n) h (inr e) i = absurd (grind (arith, nat_tests, h, i.1, i.2, e.1))
  wrong_stays offset c s w next.Ended h v i = absurd (omega (arith, ap length i, h))
  wrong_stays offset c s w (next.Error e) h v i = ap Some (i.1.1 ∙ ap (capture.Block offset) (one_wrong c s i.1.0 w i.1.2 v))

  pub same_error : (offset : ℕ) (c : Section) (s t : List ℕ) (x y : Next) → IsNextBlock limit room c offset s x → IsNextBlock limit room c offset (s ++ t) y → IsSome (error_of x) → error_of y ≡ error_of x
  same_error offset c s t (next.Error e) y i j some =
      wrong_stays offset c (s ++ t) i.1.0 y (omega (arith, i.0, length-append s t)) (wrong_more c s t i.1.0 i.0 i.1.2) j ∙ ap Some (sym i.1.1)
  same_error offset c s t (next.Frame f) y i j some = absurd (false≢true some)
  same_error offset c s t (next.Block b) y i j some = absurd (false≢true some)
  same_error offset c s t (next.Needs n) y i j some = absurd (false≢true some)
  same_error offset c s t next.Ended y i j some = absurd (false≢true some)
