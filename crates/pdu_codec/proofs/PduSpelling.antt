-- PDUs: what is read is spelled so and within its limits, and what is spelled so is read.
use Rattle.std.proofs.Common.{◌≡◌, ℕ, zero, suc, ◌+◌, ◌-◌, ◌^◌, ◌<◌, ◌≤◌, Bool, true, false, cond, eqb, ltb, not, ◌||◌, List, [], ◌∷◌}
use Rattle.std.proofs.Common.{◌++◌, length, take, drop, Option, Some, None, IfOk, Result, Ok, Err, refl, sym, ap, subst, ◌∙◌, arith}
use Rattle.std.proofs.Common.{length-take, length-drop}
use Rattle.std.specs.List.{find}
use Rattle.std.specs.Int.{w32, to_be_bytes}
use Rattle.std.proofs.lemmas.Bool.{eqb-true, ltb-true, ltb-false, or_parts, not-false}
use Rattle.std.proofs.lemmas.List.{take_all, get_or-take, get_or_past}
use Rattle.std.proofs.lemmas.Nat.{be_bytes_4, from_be_bytes-to_be_bytes_4}
use Rattle.pdu_tables.specs.declared.command.Command.{Command}
use Rattle.pdu_tables.specs.declared.command.Command.TheVariants as commands
use Rattle.pdu_tables.specs.CommandCodes.{command_code, command_table, command_of}
use Rattle.pdu_fields.specs.declared.fault.PduFault.{PduFault}
use Rattle.pdu_fields.specs.declared.fault.PduFault.TheVariants as faults
use Rattle.pdu_bodies.specs.declared.pdu.Pdu.{Pdu}
use Rattle.pdu_bodies.specs.declared.pdu.Body.{Body}
use Rattle.pdu_bodies.specs.declared.pdu.Body.TheVariants as bodies
use Rattle.pdu_fields.specs.Text.{IsOctets}
use Rattle.pdu_fields.specs.Grammar.{◌>>=◌, word_at}
use Rattle.pdu_bodies.specs.Forms.{form_of, parts_of, Filling, filling_octets, FillingFits, filling_at}
use Rattle.pdu_bodies.specs.Bodies.{Filled, Fills, filled_command, filled_by, octets_in, FilledFits, command_in, body_from, body_octets, BodyFits, body_at}
use Rattle.pdu_codec.specs.Pdu.{framed, octets_of, Fits, has_wrong_length, read_pdu, Gives}
use Rattle.octet_fields.proofs.Octets.{IsOctets-drop, bind_ok, guard_ok, ok_is}
use Rattle.octet_fields.specs.Laws.{IsFirstFault}
use Rattle.pdu_codec.proofs.FormLaws.{is_sound, tell_body, form_takes, form_again, form-short, bind_err, form_first_fault}
use Rattle.pdu_bodies.proofs.Making.{bind_answer_again, message_id_again, query_answer_again}
use Rattle.pdu_codec.proofs.PduLaws.{with_body, read_pdu-whole}

-- ---- commands

-- Its number stands for it, and has four octets; its form is sound, and each defect is told as a fault of a body.
pub record IsServed (command : Command) : Type 0 where
  pub known : command_of (command_code command) ≡ Some command
  pub number : ltb (command_code command) (2 ^ 32) ≡ true
  pub form : is_sound (form_of command) ≡ true
  pub told : tell_body (parts_of (form_of command)) ≡ true

pub served : (command : Command) → IsServed command
served commands.BindReceiver = record { known = refl; number = refl; form = refl; told = refl }
served commands.BindReceiverResp = record { known = refl; number = refl; form = refl; told = refl }
served commands.BindTransmitter = record { known = refl; number = refl; form = refl; told = refl }
served commands.BindTransmitterResp = record { known = refl; number = refl; form = refl; told = refl }
served commands.BindTransceiver = record { known = refl; number = refl; form = refl; told = refl }
served commands.BindTransceiverResp = record { known = refl; number = refl; form = refl; told = refl }
served commands.SubmitSm = record { known = refl; number = refl; form = refl; told = refl }
served commands.SubmitSmResp = record { known = refl; number = refl; form = refl; told = refl }
served commands.DeliverSm = record { known = refl; number = refl; form = refl; told = refl }
served commands.DeliverSmResp = record { known = refl; number = refl; form = refl; told = refl }
served commands.QuerySm = record { known = refl; number = refl; form = refl; told = refl }
served commands.QuerySmResp = record { known = refl; number = refl; form = refl; told = refl }
served commands.CancelSm = record { known = refl; number = refl; form = refl; told = refl }
served commands.CancelSmResp = record { known = refl; number = refl; form = refl; told = refl }
served commands.Unbind = record { known = refl; number = refl; form = refl; told = refl }
served commands.UnbindResp = record { known = refl; number = refl; form = refl; told = refl }
served commands.EnquireLink = record { known = refl; number = refl; form = refl; told = refl }
served commands.EnquireLinkResp = record { known = refl; number = refl; form = refl; told = refl }
served commands.GenericNack = record { known = refl; number = refl; form = refl; told = refl }

-- ---- bodies

-- the octets of a body of this command, which fits
pub record TakesBody (command : Option Command) (octets : List ℕ) (b : Body) : Type 0 where
  pub command_is : command ≡ Some (command_in b)
  pub spelled : octets ≡ body_octets b
  pub fits : BodyFits b

made : (command : Command) (filling : Filling (form_of command)) → FillingFits (form_of command) filling →
    TakesBody (Some command) (filling_octets (form_of command) filling) (body_from command filling)
made commands.BindReceiver filling fits = record { command_is = refl; spelled = refl; fits = fits }
made commands.BindReceiverResp None fits = record { command_is = refl; spelled = refl; fits = fits }
made commands.BindReceiverResp (Some c) fits = record { command_is = refl; spelled = refl; fits = fits }
made commands.BindTransmitter filling fits = record { command_is = refl; spelled = refl; fits = fits }
made commands.BindTransmitterResp None fits = record { command_is = refl; spelled = refl; fits = fits }
made commands.BindTransmitterResp (Some c) fits = record { command_is = refl; spelled = refl; fits = fits }
made commands.BindTransceiver filling fits = record { command_is = refl; spelled = refl; fits = fits }
made commands.BindTransceiverResp None fits = record { command_is = refl; spelled = refl; fits = fits }
made commands.BindTransceiverResp (Some c) fits = record { command_is = refl; spelled = refl; fits = fits }
made commands.SubmitSm filling fits = record { command_is = refl; spelled = refl; fits = fits }
made commands.SubmitSmResp None fits = record { command_is = refl; spelled = refl; fits = fits }
made commands.SubmitSmResp (Some c) fits = record { command_is = refl; spelled = refl; fits = fits }
made commands.DeliverSm filling fits = record { command_is = refl; spelled = refl; fits = fits }
made commands.DeliverSmResp None fits = record { command_is = refl; spelled = refl; fits = fits }
made commands.DeliverSmResp (Some c) fits = record { command_is = refl; spelled = refl; fits = fits }
made commands.QuerySm filling fits = record { command_is = refl; spelled = refl; fits = fits }
made commands.QuerySmResp None fits = record { command_is = refl; spelled = refl; fits = fits }
made commands.QuerySmResp (Some c) fits = record { command_is = refl; spelled = refl; fits = fits }
made commands.CancelSm filling fits = record { command_is = refl; spelled = refl; fits = fits }
made commands.CancelSmResp filling fits = record { command_is = refl; spelled = refl; fits = fits }
made commands.Unbind filling fits = record { command_is = refl; spelled = refl; fits = fits }
made commands.UnbindResp filling fits = record { command_is = refl; spelled = refl; fits = fits }
made commands.EnquireLink filling fits = record { command_is = refl; spelled = refl; fits = fits }
made commands.EnquireLinkResp filling fits = record { command_is = refl; spelled = refl; fits = fits }
made commands.GenericNack filling fits = record { command_is = refl; spelled = refl; fits = fits }

abbrev body_in : Filled → Body
body_in (Fills command filling) = body_from command filling

again : (b : Body) → body_in (filled_by b) ≡ b
again (bodies.BindReceiver bind) = refl
again (bodies.BindReceiverResp answer) = ap bodies.BindReceiverResp (bind_answer_again answer)
again (bodies.BindTransmitter bind) = refl
again (bodies.BindTransmitterResp answer) = ap bodies.BindTransmitterResp (bind_answer_again answer)
again (bodies.BindTransceiver bind) = refl
again (bodies.BindTransceiverResp answer) = ap bodies.BindTransceiverResp (bind_answer_again answer)
again (bodies.SubmitSm message) = refl
again (bodies.SubmitSmResp answer) = ap bodies.SubmitSmResp (message_id_again answer)
again (bodies.DeliverSm message) = refl
again (bodies.DeliverSmResp answer) = ap bodies.DeliverSmResp (message_id_again answer)
again (bodies.QuerySm query) = refl
again (bodies.QuerySmResp answer) = ap bodies.QuerySmResp (query_answer_again answer)
again (bodies.CancelSm cancel) = refl
again bodies.CancelSmResp = refl
again bodies.Unbind = refl
again bodies.UnbindResp = refl
again bodies.EnquireLink = refl
again bodies.EnquireLinkResp = refl
again bodies.GenericNack = refl

body_takes : (command : Option Command) (octets : List ℕ) (b : Body) → IsOctets octets → body_at command octets ≡ Ok b → TakesBody command octets b
unfolding body_at
body_takes None octets b are e = absurd cc
body_takes (Some command) octets b are e =
    let a = bind_ok (filling_at (form_of command) octets) (λ filling. Ok (body_from command filling)) b e in
    let taken = form_takes (form_of command) octets a.0 are a.1 in
    let body = made command a.0 taken.fits in
    subst (λ (c : Body). TakesBody (Some command) octets c) (ok_is (body_from command a.0) b a.2) (record {
      command_is = body.command_is;
      spelled = taken.spelled ∙ body.spelled;
      fits = body.fits;
    })

filled_again : (f : Filled) → FilledFits f → body_at (Some (filled_command f)) (octets_in f) ≡ Ok (body_in f)
unfolding body_at
filled_again (Fills command filling) fits =
    ap (λ (r : Result (Filling (form_of command)) PduFault). r >>= λ x. Ok (body_from command x))
    (form_again (form_of command) filling (served command).form fits)

body_again : (b : Body) → BodyFits b → body_at (Some (command_in b)) (body_octets b) ≡ Ok b
body_again b fits = filled_again (filled_by b) fits ∙ ap Ok (again b)

filled-short : (f : Filled) → FilledFits f → length (octets_in f) ≤ 7400
filled-short (Fills command filling) fits = form-short (form_of command) filling (served command).form fits

pub body-short : (b : Body) → BodyFits b → length (body_octets b) ≤ 7400
body-short b fits = filled-short (filled_by b) fits

-- ---- the header

pub find-passes : {A : Type 0} (test : A → Bool) (xs : List A) (x : A) → find test xs ≡ Some x → test x ≡ true
find-passes test [] x e = absurd cc
find-passes test (y ∷ ys) x e = at_test (find-passes test ys x) (test y) refl e
  where
    at_test : (find test ys ≡ Some x → test x ≡ true) → (b : Bool) → test y ≡ b → cond b (Some y) (find test ys) ≡ Some x → test x ≡ true
    at_test behind true passes e =
        let same : y ≡ x = cc in
        sym (ap test same) ∙ passes
    at_test behind false fails e = behind e

code-of_command : (code : ℕ) (command : Command) → command_of code ≡ Some command → command_code command ≡ code
code-of_command code command e = eqb-true _ _ (find-passes (λ x. eqb (command_code x) code) command_table command e)

four_octets : (octets : List ℕ) → IsOctets octets → IsOctets (take 4 octets)
four_octets octets are zero = rw (get_or-take 4 octets 0 0 (omega arith)) (are 0)
four_octets octets are (suc zero) = rw (get_or-take 4 octets 1 0 (omega arith)) (are 1)
four_octets octets are (suc (suc zero)) = rw (get_or-take 4 octets 2 0 (omega arith)) (are 2)
four_octets octets are (suc (suc (suc zero))) = rw (get_or-take 4 octets 3 0 (omega arith)) (are 3)
four_octets octets are (suc (suc (suc (suc i)))) =
    rw (get_or_past (take 4 octets) (suc (suc (suc (suc i)))) 0 (omega (arith, length-take 4 octets))) (omega arith)

-- four octets are the number that stands there
word-spelled : (place : ℕ) (octets : List ℕ) → IsOctets octets → place + 4 ≤ length octets → to_be_bytes w32 (word_at place octets) ≡ take 4 (drop place octets)
word-spelled place octets are long =
    be_bytes_4 (take 4 (drop place octets)) _ (omega (arith, length-take 4 (drop place octets), length-drop place octets))
    (four_octets (drop place octets) (IsOctets-drop place octets are)) refl

word-short : (place : ℕ) (octets : List ℕ) → IsOctets octets → word_at place octets < 2 ^ 32
word-short place octets are =
    let four = four_octets (drop place octets) (IsOctets-drop place octets are) in
    omega (arith, four 0, four 1, four 2, four 3)

header_and_rest : (octets : List ℕ) → 16 ≤ length octets →
    octets ≡ take 4 (drop 0 octets) ++ take 4 (drop 4 octets) ++ take 4 (drop 8 octets) ++ take 4 (drop 12 octets) ++ drop 16 octets
header_and_rest (a ∷ b ∷ c ∷ d ∷ e ∷ f ∷ g ∷ h ∷ i ∷ j ∷ k ∷ l ∷ m ∷ n ∷ o ∷ p ∷ rest) long = refl
header_and_rest other long = absurd (omega arith)

-- ---- whole PDUs

pub record TakesPdu (octets : List ℕ) (pdu : Pdu) : Type 0 where
  pub spelled : octets ≡ octets_of pdu
  pub fits : Fits pdu

pub read_pdu-takes : (octets : List ℕ) (pdu : Pdu) → IsOctets octets → read_pdu octets ≡ Ok pdu → TakesPdu octets pdu
unfolding read_pdu octets_of framed
read_pdu-takes octets pdu are e =
    let command = command_of (word_at 4 octets) in
    let g = guard_ok (has_wrong_length octets) faults.Length (body_at command (drop 16 octets) >>= λ b. Ok (with_body octets b)) pdu e in
    let lengths = or_parts (ltb (length octets) 16 || ltb 8192 (length octets)) (not (eqb (word_at 0 octets) (length octets))) g.0 in
    let long : 16 ≤ length octets = ltb-false _ _ (or_parts (ltb (length octets) 16) (ltb 8192 (length octets)) lengths.0).0 in
    let length_is : word_at 0 octets ≡ length octets = eqb-true _ _ (not-false (eqb (word_at 0 octets) (length octets)) lengths.1) in
    let a = bind_ok (body_at command (drop 16 octets)) (λ b. Ok (with_body octets b)) pdu g.1 in
    let taken = body_takes command (drop 16 octets) a.0 (IsOctets-drop 16 octets are) a.1 in
    let code_is : word_at 4 octets ≡ command_code (command_in a.0) = sym (code-of_command (word_at 4 octets) (command_in a.0) taken.command_is) in
    let size : 16 + length (body_octets a.0) ≡ word_at 0 octets = omega (arith, length_is, ap length taken.spelled, length-drop 16 octets) in
    let first : to_be_bytes w32 (16 + length (body_octets a.0)) ≡ take 4 (drop 0 octets) = ap (to_be_bytes w32) size
    ∙ word-spelled 0 octets are (omega arith) in
    let second : to_be_bytes w32 (command_code (command_in a.0)) ≡ take 4 (drop 4 octets) = ap (to_be_bytes w32) (sym code_is)
    ∙ word-spelled 4 octets are (omega arith) in
    let third = word-spelled 8 octets are (omega arith) in
    let fourth = word-spelled 12 octets are (omega arith) in
    let whole : octets ≡ octets_of (with_body octets a.0) =
    header_and_rest octets long
    ∙ ap (λ (w : List ℕ). w ++ take 4 (drop 4 octets) ++ take 4 (drop 8 octets) ++ take 4 (drop 12 octets) ++ drop 16 octets) (sym first)
    ∙ ap (λ (w : List ℕ). to_be_bytes w32 (16 + length (body_octets a.0)) ++ w ++ take 4 (drop 8 octets) ++ take 4
    (drop 12 octets) ++ drop 16 octets) (sym second)
    ∙ ap (λ (w : List ℕ). to_be_bytes w32 (16 + length (body_octets a.0)) ++ to_be_bytes w32 (command_code (command_in a.0)) ++ w ++ take 4
    (drop 12 octets) ++ drop 16 octets) (sym third)
    ∙ ap (λ (w : List ℕ). to_be_bytes w32 (16 + length (body_octets a.0)) ++ to_be_bytes w32
    (command_code (command_in a.0)) ++ to_be_bytes w32 (word_at 8 octets) ++ w ++ drop 16 octets) (sym fourth)
    ∙ ap (λ (w : List ℕ). to_be_bytes w32 (16 + length (body_octets a.0)) ++ to_be_bytes w32
    (command_code (command_in a.0)) ++ to_be_bytes w32 (word_at 8 octets) ++ to_be_bytes w32 (word_at 12 octets) ++ w) taken.spelled in
    subst (λ (p : Pdu). TakesPdu octets p) (ok_is (with_body octets a.0) pdu a.2) (record {
      spelled = whole;
      fits = record { status = word-short 8 octets are; sequence = word-short 12 octets are; body = taken.fits };
    })

pub read_pdu-again : (pdu : Pdu) → Fits pdu → read_pdu (octets_of pdu) ≡ Ok pdu
unfolding octets_of framed
read_pdu-again pdu fits =
    let octets = octets_of pdu in
    let body : List ℕ = body_octets pdu.body in
    let short = body-short pdu.body fits.body in
    let size : length octets ≡ 16 + length body = omega arith in
    let length_is : word_at 0 octets ≡ 16 + length body = from_be_bytes-to_be_bytes_4 (16 + length body) (omega (arith, short)) in
    let code_is : word_at 4 octets ≡ command_code (command_in pdu.body) = from_be_bytes-to_be_bytes_4 (command_code (command_in pdu.body))
    (ltb-true (command_code (command_in pdu.body)) (2 ^ 32) (served (command_in pdu.body)).number) in
    let status_is : word_at 8 octets ≡ pdu.status = from_be_bytes-to_be_bytes_4 pdu.status fits.status in
    let sequence_is : word_at 12 octets ≡ pdu.sequence = from_be_bytes-to_be_bytes_4 pdu.sequence fits.sequence in
    let command_is : Some (command_in pdu.body) ≡ command_of (word_at 4 octets) = sym (ap command_of code_is ∙ (served (command_in pdu.body)).known) in
    let rest_is : body ≡ take (length octets - 16) (drop 16 octets) = sym (take_all (length octets - 16) body (omega (arith, size))) in
    read_pdu-whole octets body (Some (command_in pdu.body)) (omega (arith, size)) (omega (arith, size, short)) (length_is ∙ sym size) command_is rest_is
    ∙ ap (λ (r : Result Body PduFault). r >>= λ b. Ok (with_body octets b)) (body_again pdu.body fits.body)
    ∙ ap (λ (s : ℕ). Ok (record { status = s; sequence = word_at 12 octets; body = pdu.body })) status_is
    ∙ ap (λ (s : ℕ). Ok (record { status = pdu.status; sequence = s; body = pdu.body })) sequence_is

-- the clauses of what is read, for its caller
pub read-is_spelled : (octets : List ℕ) (r : Result Pdu PduFault) → IsOctets octets → Gives r (read_pdu octets) → IfOk r (λ pdu. octets ≡ octets_of pdu)
read-is_spelled octets (Ok pdu) are gives = (read_pdu-takes octets pdu are gives).spelled
read-is_spelled octets (Err fault) are gives = tt

pub read-fits : (octets : List ℕ) (r : Result Pdu PduFault) → IsOctets octets → Gives r (read_pdu octets) → IfOk r Fits
read-fits octets (Ok pdu) are gives = (read_pdu-takes octets pdu are gives).fits
read-fits octets (Err fault) are gives = tt

pub body_first_fault : (command : Command) (octets : List ℕ) (fault : PduFault) → IsOctets octets →
    body_at (Some command) octets ≡ Err fault →
    IsFirstFault faults.Extra (parts_of (form_of command)) octets fault
unfolding body_at
body_first_fault command octets fault are e =
    form_first_fault (form_of command) octets fault are (served command).form (bind_err (filling_at (form_of command) octets) (body_from command) fault e)
