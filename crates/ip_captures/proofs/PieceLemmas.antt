-- There is one longest list of pieces that begins some bytes.
use Rattle.std.proofs.Common.{◌≡◌, ℕ, ◌<◌, ◌≤◌, zero, suc, List, [], ◌∷◌, ◌++◌, length, take, drop, ap, arith, refl, ◌∙◌, sym, subst}
use Rattle.std.proofs.lemmas.List.{append_assoc, take-append-drop, length-drop, take_at, drop_at, append_cancel_left}
use Rattle.std.specs.Prelude.{Option, Some, None}
use Rattle.std.specs.Option.{option_map_or}
use Rattle.std.specs.List.{concat}
use Rattle.ip_captures.specs.Pieces.{ArePieces, BeginsWithPiece, AreLongest, state_after, pieces_within, pieces_in}

-- `len` is the length of the piece that begins some bytes, if one does.
pub record Finds {C : Type 0} (IsPiece : C → List ℕ → Type 0) (len : C → List ℕ → Option ℕ) : Type 0 where
  pub found : (c : C) (s : List ℕ) (k : ℕ) → len c s ≡ Some k → IsPiece c (take k s) × (0 < k) × (k ≤ length s)
  pub only : (c : C) (p q : List ℕ) → IsPiece c p → len c (p ++ q) ≡ Some (length p)

module _ {C : Type 0} (IsPiece : C → List ℕ → Type 0) (after : C → List ℕ → C) (len : C → List ℕ → Option ℕ) (f : Finds IsPiece len) where
  pub none_begins : (c : C) (s : List ℕ) → len c s ≡ None → BeginsWithPiece IsPiece c s → ⊥
  none_begins c s e b = let x : Some (length b.0) ≡ None = sym (f.only c b.0 b.1 b.2) ∙ sym (ap (len c) b.3) ∙ e in cc

  -- two pieces that begin the same bytes are the same
  pub same_first : (c : C) (p q a b : List ℕ) → IsPiece c p → IsPiece c q → p ++ a ≡ q ++ b → p ≡ q
  same_first c p q a b i j e =
      let x : Some (length p) ≡ Some (length q) = sym (f.only c p a i) ∙ ap (len c) e ∙ f.only c q b j in
      let l : length p ≡ length q = cc in
      sym (take_at p a (length p) refl) ∙ ap (take (length p)) e ∙ take_at q b (length p) (sym l)

  abbrev Longest : C → List ℕ → List (List ℕ) → List ℕ → Type 0
  Longest = AreLongest IsPiece after

  -- One more piece.
  pub one_more : (c : C) (s p t rest : List ℕ) (ps : List (List ℕ)) → IsPiece c p → s ≡ p ++ t → Longest (after c p) t ps rest → Longest c s (p ∷ ps) rest
  one_more c s p t rest ps i e l = record {
    pieces = (i, l.pieces);
    joined = e ∙ ap (λ x. p ++ x) l.joined ∙ sym (append_assoc p (concat ps) rest);
    longest = l.longest;
  }

  pub no_more : (c : C) (s : List ℕ) → len c s ≡ None → Longest c s [] s
  no_more c s e = record { pieces = tt; joined = refl; longest = none_begins c s e }

  -- The first piece taken away.
  pub one_less : (c : C) (s p t rest : List ℕ) (ps : List (List ℕ)) → s ≡ p ++ t → Longest c s (p ∷ ps) rest → Longest (after c p) t ps rest
  one_less c s p t rest ps e l = record {
    pieces = l.pieces.1;
    joined = append_cancel_left p t (concat ps ++ rest) (sym e ∙ l.joined ∙ append_assoc p (concat ps) rest);
    longest = l.longest;
  }

  abbrev IsLongestWithin : ℕ → C → List ℕ → List (List ℕ) → Type 0
  IsLongestWithin n c s ps = (rest : List ℕ) × Longest c s ps rest

  step : (n : ℕ) (c : C) (s : List ℕ) → length s ≤ suc n → ((d : C) (t : List ℕ) → length t ≤ n → (rest : List ℕ) × Longest d t (pieces_within len after n d t) rest) → (o : Option ℕ) → len c s ≡ o
      → (rest : List ℕ) × Longest c s (option_map_or (λ k. take k s ∷ pieces_within len after n (after c (take k s)) (drop k s)) o []) rest
  step n c s h ih None e = (s, no_more c s e)
  step n c s h ih (Some k) e =
      let x = f.found c s k e in
      let shorter : length (drop k s) ≤ n = omega (arith, length-drop k s) in
      let l = ih (after c (take k s)) (drop k s) shorter in
      (l.0, one_more c s (take k s) (drop k s) l.0 _ x.0 (sym (take-append-drop k s)) l.1)

  nothing_left : (c : C) (s : List ℕ) → length s ≤ 0 → (o : Option ℕ) → len c s ≡ o → Longest c s [] s
  nothing_left c s h None e = no_more c s e
  nothing_left c s h (Some k) e = absurd (omega (arith, (f.found c s k e).1, (f.found c s k e).2))

  within_longest : (n : ℕ) (c : C) (s : List ℕ) → length s ≤ n → (rest : List ℕ) × Longest c s (pieces_within len after n c s) rest
  within_longest zero c s h = (s, nothing_left c s h (len c s) refl)
  within_longest (suc n) c s h = step n c s h (within_longest n) (len c s) refl

  -- Pieces that begin some bytes are the first ones of the longest list that begins those bytes or more.
  pub first_of_longest : (ps qs : List (List ℕ)) (c : C) (s r t rest : List ℕ) → ArePieces IsPiece after c ps → s ≡ concat ps ++ r → Longest c (s ++ t) qs rest
      → (more : List (List ℕ)) × (qs ≡ ps ++ more)
  first_of_longest [] qs c s r t rest a e l = (qs, refl)
  first_of_longest (p ∷ ps) [] c s r t rest a e l =
      let j : rest ≡ p ++ (concat ps ++ (r ++ t)) = sym l.joined ∙ ap (λ x. x ++ t) e ∙ simp append_assoc in
      absurd (l.longest (p, concat ps ++ (r ++ t), a.0, j))
  first_of_longest (p ∷ ps) (q ∷ qs) c s r t rest a e l =
      let j : s ++ t ≡ p ++ ((concat ps ++ r) ++ t) = ap (λ x. x ++ t) e ∙ simp append_assoc in
      let k : p ++ ((concat ps ++ r) ++ t) ≡ q ++ (concat qs ++ rest) = sym j ∙ l.joined ∙ append_assoc q (concat qs) rest in
      let same : p ≡ q = same_first c p q _ _ a.0 l.pieces.0 k in
      let m : Longest c (s ++ t) (p ∷ qs) rest = subst (λ (x : List ℕ). Longest c (s ++ t) (x ∷ qs) rest) (sym same) l in
      let tail = first_of_longest ps qs (after c p) (concat ps ++ r) r t rest a.1 refl (one_less c (s ++ t) p ((concat ps ++ r) ++ t) rest qs j m) in
      (tail.0, cc)

  pub one_longest : (ps qs : List (List ℕ)) (c : C) (s r rest : List ℕ) → Longest c s ps r → Longest c s qs rest → (ps ≡ qs) × (r ≡ rest)
  one_longest [] [] c s r rest k l = (refl, sym k.joined ∙ l.joined)
  one_longest [] (q ∷ qs) c s r rest k l =
      let j : r ≡ q ++ (concat qs ++ rest) = sym k.joined ∙ l.joined ∙ append_assoc q (concat qs) rest in
      absurd (k.longest (q, concat qs ++ rest, l.pieces.0, j))
  one_longest (p ∷ ps) [] c s r rest k l =
      let j : rest ≡ p ++ (concat ps ++ r) = sym l.joined ∙ k.joined ∙ append_assoc p (concat ps) r in
      absurd (l.longest (p, concat ps ++ r, k.pieces.0, j))
  one_longest (p ∷ ps) (q ∷ qs) c s r rest k l =
      let i : s ≡ p ++ (concat ps ++ r) = k.joined ∙ append_assoc p (concat ps) r in
      let j : p ++ (concat ps ++ r) ≡ q ++ (concat qs ++ rest) = sym i ∙ l.joined ∙ append_assoc q (concat qs) rest in
      let same : p ≡ q = same_first c p q _ _ k.pieces.0 l.pieces.0 j in
      let m : Longest c s (p ∷ qs) rest = subst (λ (x : List ℕ). Longest c s (x ∷ qs) rest) (sym same) l in
      let tail = one_longest ps qs (after c p) (concat ps ++ r) r rest (one_less c s p _ r ps i k) (one_less c s p _ rest qs i m) in
      (cc, tail.1)

  -- The longest list of pieces, and what is left.
  pub pieces_longest : (c : C) (s : List ℕ) → (rest : List ℕ) × Longest c s (pieces_in len after c s) rest
  pieces_longest c s = within_longest (length s) c s (omega arith)

  pub pieces_are : (c : C) (s rest : List ℕ) (ps : List (List ℕ)) → Longest c s ps rest → pieces_in len after c s ≡ ps
  pieces_are c s rest ps l = let x = pieces_longest c s in (one_longest (pieces_in len after c s) ps c s x.0 rest x.1 l).0

  pub first_piece : (c : C) (s p t : List ℕ) → IsPiece c p → s ≡ p ++ t → pieces_in len after c s ≡ p ∷ pieces_in len after (after c p) t
  first_piece c s p t i e =
      let x = pieces_longest (after c p) t in
      pieces_are c s x.0 (p ∷ pieces_in len after (after c p) t) (one_more c s p t x.0 _ i e x.1)

  -- Pieces, joined, with more bytes after them.
  pub joined_pieces : (c : C) (ps : List (List ℕ)) (t : List ℕ) → ArePieces IsPiece after c ps → pieces_in len after c (concat ps ++ t) ≡ ps ++ pieces_in len after (state_after after c ps) t
  joined_pieces c [] t a = refl
  joined_pieces c (p ∷ ps) t a =
      first_piece c (concat (p ∷ ps) ++ t) p (concat ps ++ t) a.0 (append_assoc p (concat ps) t) ∙ ap (λ qs. p ∷ qs) (joined_pieces (after c p) ps t a.1)

  pub no_piece : (c : C) (s : List ℕ) → ¬ BeginsWithPiece IsPiece c s → pieces_in len after c s ≡ []
  no_piece c s n = pieces_are c s s [] (record { pieces = tt; joined = refl; longest = n })

  longest_rest : (c : C) (s rest : List ℕ) (ps : List (List ℕ)) → Longest c s ps rest → rest ≡ drop (length (concat ps)) s
  longest_rest c s rest ps l = sym (ap (drop (length (concat ps))) l.joined ∙ drop_at (concat ps) rest (length (concat ps)) refl)

  pub longest_with_rest : (c : C) (s : List ℕ) → Longest c s (pieces_in len after c s) (drop (length (concat (pieces_in len after c s))) s)
  longest_with_rest c s =
      let x = pieces_longest c s in
      subst (λ (r : List ℕ). Longest c s (pieces_in len after c s) r) (longest_rest c s x.0 _ x.1) x.1

  pub rest_after_first : (c : C) (s p t : List ℕ) → IsPiece c p → s ≡ p ++ t → drop (length (concat (pieces_in len after c s))) s ≡ drop (length (concat (pieces_in len after (after c p) t))) t
  rest_after_first c s p t i e =
      let l = one_more c s p t _ _ i e (longest_with_rest (after c p) t) in
      (one_longest _ _ c s _ _ (longest_with_rest c s) l).1
