-- The names that most proofs use, from the standard library and the definitions, re-exported here.
pub use Rattle.std.proofs.Common.{◌≡◌, ℕ, List, arith, rules, ◌+◌, ◌≤◌, ◌++◌, take, drop, refl, sym, ◌<◌, ◌^◌, ap, ◌∙◌, append_assoc, [], ◌∷◌, zero, suc, ◌%◌, ◌*◌, true, subst, false, ◌-◌, inl, inr, ◌⊎◌, map, ◌/◌, vec_capacity, cond, tests, bit_and, lit≤, min, length, Bool, nat_eq, slice_index, ◌≢◌, slice_index_or, slice_set, get_or}
pub use Rattle.std.proofs.KnownBytes.{Consumes-nil, Consumes-trans, Appends-nil, Appends-trans, Appends-kept, Consumes-kept}
pub use Rattle.std.proofs.Math.Bool.{and-true, and-false, or-false, or_assoc}
pub use Rattle.std.proofs.Math.Seq.{take-length, drop-append_seam, take-append_seam, take-append-add, drop-length}
pub use Rattle.std.proofs.lemmas.Bool.{eq-eqb, cases_Bool, eqb-true, ne_eqb, cases_lt, lt-ltb, le-ltb, cond-false, false_from_ne_true, leb-true, le-leb, false≢true, cond-true, cases_eq, lt-leb}
pub use Rattle.std.proofs.lemmas.Bool.Decides.{Decides-and, eqb_tells, nat_tests}
pub use Rattle.std.proofs.lemmas.Fmt.{decimal_injective, decimal_is_IsNumeral, decimal_digit, first_decimal, decimal-digits_value}
pub use Rattle.std.proofs.lemmas.Grind.{common_steps}
pub use Rattle.std.proofs.lemmas.Int.Digits.{digits_value_more, digits_more}
pub use Rattle.std.proofs.lemmas.Iterator.{YieldsList, items_from_collect}
pub use Rattle.std.proofs.lemmas.Iterator.Consumers.{YieldsList-from_shown, map_from_collect, count_from_yields_List}
pub use Rattle.std.proofs.lemmas.Iterator.Splits.{YieldsList-from_slice_split}
pub use Rattle.std.proofs.lemmas.List.{take-take, map-append, take_all, drop_more, drop-drop, length-take-le, length-set, get_or-set_other, get_or-set_same, take_more, append_cancel_left, get_or_default, take_rest, get_or_append_left, length-take, take-map, length-map, drop_all, get_or_past, take_at, take-append-le, drop-append-le, get_or_at, flat_map_more, get_or-take, take-append-drop, length-append, append-nil, length-drop}
pub use Rattle.std.proofs.lemmas.List.Concat.{flat_map-append}
pub use Rattle.std.proofs.lemmas.List.Elements.{All-take, All-drop, All-set, All-from_recursion, All-from_get_or, recursion_from_All, All-append}
pub use Rattle.std.proofs.lemmas.List.Folds.{find-append}
pub use Rattle.std.proofs.lemmas.List.Prefix.{front_rest}
pub use Rattle.std.proofs.lemmas.List.Splits.{join_with_byte-slice_split, slice_split-cons_yes, slice_split-cons_no, slice_split_at, slice_split_none}
pub use Rattle.std.proofs.lemmas.List.Sums.{sum_by-append}
pub use Rattle.std.proofs.lemmas.Nat.{div-mul-add, mod-mul-add, be_bytes_4, from_be_bytes-to_be_bytes_4, and_comm, and_assoc, and_mask, and-not}
pub use Rattle.std.proofs.lemmas.Nat.Bits.{and_high}
pub use Rattle.std.proofs.lemmas.Option.{none-some, same_Some, IfSome_then}
pub use Rattle.std.proofs.lemmas.Result.{err_from_is_err_and, on_ok_weaker, IfErr-weaker}
pub use Rattle.std.proofs.lemmas.Slice.{take-put_mid, drop-put_mid}
pub use Rattle.std.proofs.lemmas.Slice.Eq.{bytes_eq-Decides}
pub use Rattle.std.proofs.lemmas.Str.Parse.{IsNumeralModel, numerals_by_value, tells_digits, digit_at, digits_value-take-le}
pub use Rattle.std.specs.Bool.{Decides}
pub use Rattle.std.specs.Borrow.{Bor}
pub use Rattle.std.specs.Char.{digit_value}
pub use Rattle.std.specs.Cmp.{IsEquivalence}
pub use Rattle.std.specs.Cmp.Lexicographic.{pointwise}
pub use Rattle.std.specs.Cmp.Rules.{comparing}
pub use Rattle.std.specs.Fmt.{decimal}
pub use Rattle.std.specs.Int.{from_be_bytes, w32, to_be_bytes, IsInRange, IsOutOfRange}
pub use Rattle.std.specs.Io.KnownBytes.{Consumes, Appends, IsAtEnd, Keeps, ReadConsumes}
pub use Rattle.std.specs.List.{AllByRecursion, flat_map, list_any, slice_split, find, position_or_len, before_first, after_first, join_with_byte, range_with_len, onto_first}
pub use Rattle.std.specs.Net.Addr.{octets_of, segments_of}
pub use Rattle.std.specs.Option.{option_map, option_eq, option_map_or, ForSome, option_or, option_zip}
pub use Rattle.std.specs.Ordering.{on}
pub use Rattle.std.specs.Prelude.{◌↔◌, IsTrue, IsSome, is_some, ◌&&◌, not, IfSome, IfOk, ⊤, IfNone, slice_range, ◌||◌, codes, string_bytes, count_by, nat_lt, sum_by, nat_le, Option, None, Some, ◌==◌, if◌then◌else◌, Result, Err, Ok, All}
pub use Rattle.std.specs.Result.{result_ok}
pub use Rattle.std.specs.Str.{bytes_eq}
pub use Rattle.std.specs.Str.Parse.{AllDigits, digits_value}
pub use Rattle.std.specs.declared.alloc.AllocError.{AllocError}
pub use borrow.Rule.Slice.PartMut.{put_mid}
pub use Rattle.ip_base.specs.Fragment.{MAX_FRAGMENT_OFFSET}
pub use Rattle.ip_base.specs.Prefix.{IsPrefix, NoPrefix}
pub use Rattle.ip_spec.specs.Chain.{ExtHeader, bytes_of, has_fragmenting, IsEnd, IsChain, AreLinked, leads_to, headers_within, is_empty, IsPrefixChain, IsNext, IsLongestChain}
pub use Rattle.ip_spec.specs.Decoding.{IsDecoding}
pub use Rattle.ip_spec.specs.Demand.{AtMostOneOf, KeepsBeginning, NextBreaks, IsLongestUnder, IsEndUnder, NoDemand, IsDemand, AtMost, Passes}
pub use Rattle.ip_spec.specs.Encodable.{IsEncoded, IsEncodable, placed_len, fields_len}
pub use Rattle.ip_spec.specs.Encoding.{cleared_header, AreBytes, cleared_chain, AppendsOne, IsAuthEncoding, IsCleared, fixed_len, IsFragmentEncoding, IsEncoding}
pub use Rattle.ip_spec.specs.Fields.{next_header, RawFields, FragmentFields, AuthFields, raw_fields, fragment_fields, auth_fields, is_fragmenting, offset_bits, flag_bit, unreserved_bits}
pub use Rattle.ip_spec.specs.Fits.{Fits, FitsPlaces, IsOccupied}
pub use Rattle.ip_spec.specs.Header.{IsExtensionNumber, IsHeader, raw, auth, IsRawNumber, IsRawHeader, IsFragmentHeader, IsAuthHeader, IsLaterNumber, fragment}
pub use Rattle.ip_spec.specs.Lengths.{IsIcvLen, IsPayloadLen}
pub use Rattle.ip_spec.specs.Links.{relinked, first_number, linked}
pub use Rattle.ip_spec.specs.LongestOf.{IsLongestOf}
pub use Rattle.ip_spec.specs.Numbers.{AUTHENTICATION, HOP_BY_HOP, FRAGMENT, ROUTING}
pub use Rattle.ip_spec.specs.Parse.{rest_after, fault_after, IsParsed, IsAnswer}
pub use Rattle.ip_spec.specs.Places.{next_place, Place, number_in, HeaderFields, hop_by_hop, destination, routing, authentication, final_destination, header_in, raw_header, fragment_header, auth_header, fields_of, side_of, index, places}
pub use Rattle.ip_spec.specs.Requests.{RawAsks, Asks, IsZeroLength, raw_start, raw_rest, AuthAsks, FragmentAsks, fragment_whole, auth_start, auth_icv, asks_raw, asks_fragment, asks_auth}
pub use Rattle.ip_spec.specs.Runs.{joined, AreChains, AreRuns, how_many}
pub use Rattle.ip_spec.specs.Walk.{PlacedFields, IsWalkAnswer, IsSpelling, IsReachable, answer_at, IsValueOf}
pub use Rattle.ip_spec.specs.WalkStep.{next_of, IsEncodingOf, next_in_chain}
