-- What is stored of a packet that was rewritten, as numbers.
use Rattle.std.specs.Prelude.{ℕ, Bool, not, ◌==◌, Option, None, Some, if◌then◌else◌}
use Rattle.ip_dissect.specs.Dissection.{DissectedParts}
use Rattle.ip_rewrite.specs.Without.{len_without, keeps_checksums}
use Rattle.ip_rewrite.specs.declared.which.Which.{Which}
use Rattle.ip_rewrite.specs.declared.which.Which.TheVariants.{Number, Headers}
use Rattle.ip_rewrite.specs.declared.request.Request.{Request}
use Rattle.ip_rewrite.specs.declared.which.Authentication.{Authentication}
use Rattle.ip_rewrite.specs.declared.which.Authentication.TheVariants.{Valid, Invalid}
use Rattle.ip_rewrite.specs.declared.err.RewriteError.{RewriteError}
use Rattle.ip_rewrite.specs.declared.err.RewriteError.TheVariants as err
use Rattle.ipexts_c.specs.declared.rewrites.RequestFields.{RequestFields}
use Rattle.ipexts_c.specs.declared.rewrites.RewrittenFields.{RewrittenFields}

-- all headers with this number
abbrev pub with_number : ℕ → Which
with_number n = Number (record { 0 = n })

-- what may become of an authentication header that is kept
abbrev pub authentication : Bool → Authentication
authentication may_be_invalid = if may_be_invalid then Invalid else Valid

-- the code of why a packet isn't rewritten
abbrev pub refusal_code : RewriteError → ℕ
refusal_code err.Headers = 1
refusal_code err.Missing = 2
refusal_code err.LaterFragment = 3
refusal_code err.NotAHeader = 4
refusal_code err.NoHeader = 5
refusal_code err.FragmentHeader = 6
refusal_code err.Misplaced = 7
refusal_code err.Fragmented = 8
refusal_code err.Authenticated = 9
refusal_code err.HeaderFollows = 10
refusal_code err.NoLength = 11
refusal_code err.TooLong = 12
refusal_code err.NoRoom = 13
refusal_code err.NotAJumbogram = 14

-- what is stored if this length was written, and whether transport checksums hold as before
abbrev pub rewritten_fields : ℕ → Bool → RewrittenFields
rewritten_fields n keeps = record { len = n; refusal = 0; keeps_checksums = if keeps then 1 else 0 }

-- what is stored of a packet without these headers
abbrev pub fields_without : Which → DissectedParts → RewrittenFields
fields_without w p = rewritten_fields (len_without w p) (keeps_checksums w p)

-- what is stored if nothing was written, with the code of why
abbrev pub fields_of_none : ℕ → RewrittenFields
fields_of_none code = record { len = 0; refusal = code; keeps_checksums = 0 }

-- what is stored if nothing was written, for this reason
abbrev pub refused_fields : RewriteError → RewrittenFields
refused_fields e = fields_of_none (refusal_code e)

-- what is stored if nothing was written: for this reason, or because the request changes no header
abbrev pub unwritten_fields : Option RewriteError → RewrittenFields
unwritten_fields None = fields_of_none 0
unwritten_fields (Some e) = refused_fields e

-- a number that says yes
abbrev pub is_set : ℕ → Bool
is_set n = not (n == 0)

-- the request that is meant by numbers
abbrev pub request_of : RequestFields → Request
request_of f = record {
  without = Headers (record {
    hop_by_hop = is_set f.without_hop_by_hop;
    routing = is_set f.without_routing;
    fragment = is_set f.without_fragment;
    authentication = is_set f.without_authentication;
    destination_options = is_set f.without_destination_options;
  });
  clears = is_set f.clears;
  orders = is_set f.orders;
  authentication = authentication (is_set f.may_be_invalid);
}
