-- Octets come on a session: it ends, or its stream goes on; and other sessions hear nothing of them.
use Rattle.std.proofs.Common.{◌≡◌, ◌⊎◌, ℕ, ◌<◌, Bool, true, false, cond, List, [], ◌∷◌, ◌++◌, Option, Some, None, Ok, refl}
use Rattle.std.proofs.Common.{sym, ◌∙◌, ap, subst, inl, inr}
use Rattle.std.specs.Prelude.{if◌then◌else◌, is_none}
use Rattle.std.specs.Map.{lookup, remove_entry}
use Rattle.std.specs.Ordering.{nat_cmp}
use Rattle.std.specs.BTreeMap.{insert_entry, is_at}
use Rattle.mc_model.specs.synod.Lists.{In}
use Rattle.mc_parts.proofs.Membership.{in_either, in_left, in_right}
use Rattle.node_model.specs.Kept.{Held}
use Rattle.node_model.specs.Requests.{ticket_of}
use Rattle.node_model.proofs.Places.{elsewhere, here as here_now}
use Rattle.pdu_bodies.specs.declared.pdu.Pdu.{Pdu}
use Rattle.pdu_codec.specs.Pdu.{read_pdu}
use Rattle.pdu_frames.specs.Frames.{Cut, begins_wrong, cut, cut_within}
use Rattle.sessions.specs.Session.{Session}
use Rattle.sessions.specs.States.{is_gone}
use Rattle.sessions.specs.declared.request.OpenRequest.{OpenRequest}
use Rattle.script_text.specs.Left.{followed_by}
use Rattle.script_text.specs.Prints.{Gone, Late, Print}
use Rattle.script_text.specs.Pushes.{session_at}
use Rattle.script_text.specs.Receipts.{Posted, posted_for_any}
use Rattle.script_text.specs.Runner.{Acted, Runner, Served, ends, held_in, holds, mail_of, on_frame, on_frames, on_octets, on_read, on_rest}
use Rattle.script_text.specs.Runner.{opened_at, or_nothing, posts_for, put_at, served_at, serves, session_in, session_or_opened}
use Rattle.script_text.specs.Settings.{Settings}
use Rattle.world_fates.proofs.Entries.{AreApart, Has, found_entry, insert_apart, inserted_in, none_left, remove_apart, removed_in}
use Rattle.octet_laws.proofs.Hearing.{ServedSo, length_so, length_told, read_so}
use Rattle.octet_laws.proofs.Numbered.{insert_has, insert_here, remove_elsewhere, remove_has, removed_there, some_there}
use Rattle.octet_laws.proofs.Streams.{cut_more}
use Rattle.octet_laws.proofs.Ties.{Hears, IsFine, IsPlain, IsRight, IsSound, IsTied, Keeps, Lessens, Posts, keeps_then}
use Rattle.octet_laws.proofs.Ties.{plain_fine, posted_for_any_posts, posts_for_keep, sound_less, sound_on, tied_on}

-- a session is put in its place
put_apart : {X : Type 0} (es : List (ℕ × X)) (at : ℕ) (value : X) → AreApart es →
    AreApart (insert_entry nat_cmp (remove_entry (is_at (nat_cmp at)) es) at value)
put_apart es at value apart = insert_apart (remove_entry (is_at (nat_cmp at)) es) at value (none_left at es apart) (remove_apart (is_at (nat_cmp at)) es apart)

-- serving a session leaves the streams
serves_streams : (runner : Runner) (at : ℕ) (served : Served) → (serves runner at served).next.streams ≡ runner.streams
serves_streams runner at served = by_test (is_gone served.next.session.state)
  where
    next : Runner
    next = record runner { node = served.next.node }

    by_test : (gone : Bool) → (if gone then record next { sessions = remove_entry (is_at (nat_cmp at)) next.sessions }
        else record next { sessions = put_at next.sessions at served.next.session }).streams ≡ runner.streams
    by_test true = refl
    by_test false = refl

-- ---- another session

module _ (number : ℕ) (stream : List ℕ) (settings : Settings) (at : ℕ) (other : at ≡ number → ⊥) where
  removed_lessens : (connected : List (ℕ × Session)) → Lessens number connected (remove_entry (is_at (nat_cmp at)) connected)
  removed_lessens connected = record {
    less = λ session among. record {
      old = session;
      there = removed_in (is_at (nat_cmp at)) connected (number, session) among;
      state = refl;
      requests = λ request waits. waits;
    };
    has = remove_has at number other connected;
    apart = remove_apart (is_at (nat_cmp at)) connected;
  }

  put_lessens : (connected : List (ℕ × Session)) (next : Session) → Lessens number connected (put_at connected at next)
  put_lessens connected next = record {
    less = λ session among.
        elim (inserted_in (remove_entry (is_at (nat_cmp at)) connected) at next (number, session) among) [
          | inl new ↦ absurd (other (sym (ap (λ (x : ℕ × Session). x.0) new)))
          | inr old ↦ record {
            old = session;
            there = removed_in (is_at (nat_cmp at)) connected (number, session) old;
            state = refl;
            requests = λ request waits. waits;
          }
        ];
    has = λ has. insert_has at number next (remove_entry (is_at (nat_cmp at)) connected) (remove_has at number other connected has);
    apart = put_apart connected at next;
  }

  served_other : (frame : List ℕ) (before : Session) (runner : Runner) (served : Served) → ServedSo frame runner.node before at served →
      Hears number stream runner → Keeps number stream (served_at runner at served)
  served_other frame before runner served so hears = by_test (is_gone served.next.session.state)
    where
      next : Runner
      next = record runner { node = served.next.node }

      sound : IsSound number stream served.next.node.kept runner.sessions
      sound = sound_on number stream runner.node.kept served.next.node.kept runner.sessions so.on hears.sound

      never : Gone at ≡ Gone number → at ≡ number
      never is = cc

      fine : (print : Print) → In print served.prints → IsFine number stream print
      fine print among = elim (so.prints print among) [
        | inl plain ↦ plain_fine number stream print plain
        | inr gone ↦ record {
          ungone = λ is. other (never (sym gone.0 ∙ is));
          right = subst (IsRight number stream) (sym gone.0) tt;
        }
      ]

      by_test : (gone : Bool) → Keeps number stream (record {
        next = if gone then record next { sessions = remove_entry (is_at (nat_cmp at)) next.sessions }
            else record next { sessions = put_at next.sessions at served.next.session };
        inputs = served.inputs;
        prints = served.prints;
      })
      by_test true = record {
        hears = record {
          sound = sound_less number stream served.next.node.kept runner.sessions _ (removed_lessens runner.sessions) sound;
          held = hears.held;
        };
        fine = fine;
      }
      by_test false = record {
        hears = record {
          sound = sound_less number stream served.next.node.kept runner.sessions _ (put_lessens runner.sessions served.next.session) sound;
          held = hears.held;
        };
        fine = fine;
      }

  serves_other : (frame : List ℕ) (before : Session) (runner : Runner) (served : Served) → ServedSo frame runner.node before at served →
      Hears number stream runner → Keeps number stream (serves runner at served)
  serves_other frame before runner served so hears =
      let one = served_at runner at served in
      let here = served_other frame before runner served so hears in
      keeps_then number stream one (posts_for one.next served.next.session.account) here
      (posts_for_keep number stream one.next served.next.session.account here.hears)

  rest_other : (runner : Runner) (rest : List ℕ) → Hears number stream runner → (Has runner.streams at → ⊥) →
      Keeps number stream (on_rest settings at runner rest)
  rest_other runner rest hears none = by_test (begins_wrong rest)
    where
      by_test : (wrong : Bool) → Keeps number stream (cond {A = Acted} wrong (ends settings at runner) (holds runner at rest))
      by_test true =
          let before = session_in runner.sessions at in
          serves_other [] before runner _ (length_so [] runner.node at before settings) hears
      by_test false = record {
        hears = record {
          sound = hears.sound;
          held = record {
            rest = ap or_nothing (elsewhere at rest number (λ same. other (sym same)) runner.streams) ∙ hears.held.rest;
            apart = insert_apart runner.streams at rest none hears.held.apart;
          };
        };
        fine = λ print among. absurd among;
      }

  frames_other : (frames : List (List ℕ)) (rest : List ℕ) (runner : Runner) → Hears number stream runner → (Has runner.streams at → ⊥) →
      Keeps number stream (on_frames settings at runner frames rest)
  unfolding on_frames on_frame
  frames_other [] rest runner hears none = rest_other runner rest hears none
  frames_other (frame ∷ frames) rest runner hears none =
      by_test (is_none (session_at one.next.sessions at))
      (frames_other frames rest one.next here.hears
      (λ has. none (subst (λ (streams : List (ℕ × List ℕ)). Has streams at) (serves_streams runner at served) has)))
    where
      before : Session
      before = session_in runner.sessions at

      served : Served
      served = on_read settings at runner.node before frame (read_pdu frame)

      one : Acted
      one = serves runner at served

      here : Keeps number stream one
      here = serves_other frame before runner served (read_so frame runner.node at before settings (read_pdu frame) refl) hears

      later : Acted
      later = on_frames settings at one.next frames rest

      by_test : (gone : Bool) → Keeps number stream later → Keeps number stream (cond {A = Acted} gone one (followed_by one later))
      by_test true behind = here
      by_test false behind = keeps_then number stream one later here behind

  pub octets_other : (runner : Runner) (octets : List ℕ) → Hears number stream runner → Keeps number stream (on_octets settings runner at octets)
  unfolding on_octets
  octets_other runner octets hears =
      let stream_now : Cut = cut (held_in runner.streams at ++ octets) in
      frames_other stream_now.frames stream_now.rest (opened_at runner at)
      (record {
        sound = sound_less number stream runner.node.kept runner.sessions _ (put_lessens runner.sessions (session_in runner.sessions at)) hears.sound;
        held = record {
          rest = ap or_nothing (remove_elsewhere at number other runner.streams) ∙ hears.held.rest;
          apart = remove_apart (is_at (nat_cmp at)) runner.streams hears.held.apart;
        };
      })
      (none_left at runner.streams hears.held.apart)

-- ---- the session itself

-- it is connected, and nothing of its stream is held
record IsServing (number : ℕ) (stream : List ℕ) (runner : Runner) : Type 0 where
  sound : IsSound number stream runner.node.kept runner.sessions
  has : Has runner.sessions number
  apart : AreApart runner.streams
  none : lookup (is_at (nat_cmp number)) runner.streams ≡ None

-- its end is told, and what comes next begins another
pub record Ends (number : ℕ) (acted : Acted) : Type 0 where
  pub told : In (Gone number) acted.prints
  pub hears : Hears number [] acted.next
  pub late : (id : ℕ) (pdu : Pdu) → In (Late number id pdu) acted.prints → ⊥

-- it goes on
pub record Lasts (number : ℕ) (stream : List ℕ) (acted : Acted) : Type 0 where
  pub hears : Hears number stream acted.next
  pub plain : (print : Print) → In print acted.prints → IsPlain print

plain_late : (number id : ℕ) (pdu : Pdu) (print : Print) → print ≡ Late number id pdu → IsPlain print ⊎ (print ≡ Gone number) → ⊥
plain_late number id pdu print is (inl plain) = subst IsPlain is plain
plain_late number id pdu print is (inr gone) = let both : Gone number ≡ Late number id pdu = sym gone ∙ is in cc

module _ (number : ℕ) (stream : List ℕ) (settings : Settings) where
  -- a frame of it leaves that it goes on so
  record Serves (acted : Acted) : Type 0 where
    serving : IsServing number stream acted.next
    plain : (print : Print) → In print acted.prints → IsPlain print

  record EndsNow (acted : Acted) : Type 0 where
    ended : Ends number acted
    absent : Has acted.next.sessions number → ⊥

  -- the session that is served is connected still
  session_stands : (runner : Runner) → IsServing number stream runner → is_gone (session_in runner.sessions number).state ≡ false
  session_stands runner s = by_found (lookup (is_at (nat_cmp number)) runner.sessions) refl
    where
      by_found : (found : Option Session) → lookup (is_at (nat_cmp number)) runner.sessions ≡ found → is_gone (session_or_opened found).state ≡ false
      by_found None is = refl
      by_found (Some session) is = (s.sound.each session (found_entry runner.sessions number session is)).open_still

  session_tied : (runner : Runner) → IsSound number stream runner.node.kept runner.sessions → (request : OpenRequest) →
      In request (session_in runner.sessions number).requests → IsTied stream runner.node.kept request
  session_tied runner sound request among = by_found (lookup (is_at (nat_cmp number)) runner.sessions) refl among
    where
      by_found : (found : Option Session) → lookup (is_at (nat_cmp number)) runner.sessions ≡ found → In request (session_or_opened found).requests →
          IsTied stream runner.node.kept request
      by_found None is among = absurd among
      by_found (Some session) is among = (sound.each session (found_entry runner.sessions number session is)).tied request among

  module _ (runner : Runner) (s : IsServing number stream runner) (frame : List ℕ)
      (came : (pdu : Pdu) → read_pdu frame ≡ Ok pdu → In frame (cut stream).frames) (served : Served)
      (so : ServedSo frame runner.node (session_in runner.sessions number) number served) where
    abbrev one : Acted
    one = served_at runner number served

    abbrev without : List (ℕ × Session)
    without = remove_entry (is_at (nat_cmp number)) runner.sessions

    tied_now : (request : OpenRequest) → In request served.next.session.requests → IsTied stream served.next.node.kept request
    tied_now request among = elim (so.requests request among) [
      | inl old ↦ tied_on stream runner.node.kept served.next.node.kept request so.on (session_tied runner s.sound request old)
      | inr new ↦ record {
        below = new.below;
        frame = frame;
        among = came new.pdu new.reads;
        pdu = new.pdu;
        reads = new.reads;
        sequence_is = new.sequence_is;
        asks = new.asks;
        names = new.names s.sound.given;
      }
    ]

    given_now : (h : Held) → In h served.next.node.kept.held → ticket_of h < served.next.node.kept.ticket
    given_now = (sound_on number stream runner.node.kept served.next.node.kept runner.sessions so.on s.sound).given

    put_sound : is_gone served.next.session.state ≡ false → IsSound number stream served.next.node.kept (put_at runner.sessions number served.next.session)
    put_sound stays = record {
      given = given_now;
      there = inr (insert_here number served.next.session without);
      each = λ session among.
          elim (inserted_in without number served.next.session (number, session) among) [
            | inl new ↦
                let is = ap (λ (x : ℕ × Session). x.1) new in
                record {
                  open_still = ap (λ (x : Session). is_gone x.state) is ∙ stays;
                  tied = λ request waits. tied_now request (subst (λ (x : Session). In request x.requests) is waits);
                }
            | inr old ↦ absurd (none_left number runner.sessions s.sound.apart (record { value = session; among = old }))
          ];
      apart = put_apart runner.sessions number served.next.session s.sound.apart;
    }

    -- what waits for its account goes out behind what was printed
    then_posted : (next : Runner) (prints : List Print) → next.streams ≡ runner.streams →
        ((IsSound number stream next.node.kept next.sessions × Has next.sessions number × ((print : Print) → In print prints → IsPlain print))
        ⊎ ((Has next.sessions number → ⊥) × In (Gone number) prints
        × ((h : Held) → In h next.node.kept.held → ticket_of h < next.node.kept.ticket) × AreApart next.sessions
        × ((print : Print) → In print prints → IsPlain print ⊎ (print ≡ Gone number)))) →
        (account : Option (List ℕ)) → (acted : Acted) → acted ≡ record { next = next; inputs = served.inputs; prints = prints } →
        EndsNow (followed_by acted (posts_for acted.next account)) ⊎ Serves (followed_by acted (posts_for acted.next account))
    unfolding cut_within
    then_posted next prints streams both account acted is =
        subst (λ (a : Acted). EndsNow (followed_by a (posts_for a.next account)) ⊎ Serves (followed_by a (posts_for a.next account))) (sym is)
        (elim both [
          | inl lasts ↦ inr (record {
            serving = record {
              sound = sound_less number stream next.node.kept next.sessions posted.next.sessions posts.lessens lasts.0;
              has = posts.lessens.has lasts.1;
              apart = subst (λ (es : List (ℕ × List ℕ)). AreApart es) (sym streams) s.apart;
              none = ap (lookup (is_at (nat_cmp number))) streams ∙ s.none;
            };
            plain = λ print among. elim (in_either print prints posted.prints among) [ inl a ↦ lasts.2 print a | inr b ↦ posts.plain print b ];
          })
          | inr gone ↦ inl (record {
            ended = record {
              told = in_left (Gone number) prints posted.prints gone.1;
              hears = record {
                sound = record {
                  given = gone.2;
                  there = inl refl;
                  each = λ session among. absurd (gone.0 (absent_still session among));
                  apart = posts.lessens.apart gone.3;
                };
                held = record {
                  rest = ap or_nothing (ap (lookup (is_at (nat_cmp number))) streams ∙ s.none);
                  apart = subst (λ (es : List (ℕ × List ℕ)). AreApart es) (sym streams) s.apart;
                };
              };
              late = λ id pdu among. elim (in_either (Late number id pdu) prints posted.prints among) [
                | inl a ↦ plain_late number id pdu _ refl (gone.4 _ a)
                | inr b ↦ plain_late number id pdu _ refl (inl (posts.plain _ b))
              ];
            };
            absent = λ has. gone.0 (absent_still has.value has.among);
          })
        ])
      where
        posted : Posted
        posted = posted_for_any next.node.kept.clock (mail_of next) account

        posts : Posts number (mail_of next) posted
        posts = posted_for_any_posts number next.node.kept.clock (mail_of next) account

        absent_still : (session : Session) → In (number, session) posted.next.sessions → Has next.sessions number
        absent_still session among = let it = posts.lessens.less session among in record { value = it.old; among = it.there }

    serves_own : EndsNow (serves runner number served) ⊎ Serves (serves runner number served)
    serves_own = by_test (is_gone served.next.session.state) refl
      where
        next : Runner
        next = record runner { node = served.next.node }

        prints_so : is_gone served.next.session.state ≡ false → (print : Print) → In print served.prints → IsPlain print
        prints_so stays print among = elim (so.prints print among) [
          | inl plain ↦ plain
          | inr gone ↦ absurd (let both : false ≡ true = sym stays ∙ gone.1 in cc)
        ]

        by_test : (gone : Bool) → is_gone served.next.session.state ≡ gone →
            EndsNow (followed_by (record {
              next = if gone then record next { sessions = without } else record next { sessions = put_at runner.sessions number served.next.session };
              inputs = served.inputs;
              prints = served.prints;
            }) (posts_for (if gone then record next { sessions = without } else record next { sessions = put_at runner.sessions number served.next.session })
            served.next.session.account))
            ⊎ Serves (followed_by (record {
              next = if gone then record next { sessions = without } else record next { sessions = put_at runner.sessions number served.next.session };
              inputs = served.inputs;
              prints = served.prints;
            }) (posts_for (if gone then record next { sessions = without } else record next { sessions = put_at runner.sessions number served.next.session })
            served.next.session.account))
        by_test true is =
            then_posted (record next { sessions = without }) served.prints refl
            (inr (
              none_left number runner.sessions s.sound.apart,
              so.gone (session_stands runner s) is,
              given_now,
              remove_apart (is_at (nat_cmp number)) runner.sessions s.sound.apart,
              gone_prints_so,
            )) served.next.session.account _ refl
          where
            gone_prints_so : (print : Print) → In print served.prints → IsPlain print ⊎ (print ≡ Gone number)
            gone_prints_so print among = elim (so.prints print among) [ inl plain ↦ inl plain | inr gone ↦ inr gone.0 ]
        by_test false is =
            then_posted (record next { sessions = put_at runner.sessions number served.next.session }) served.prints refl
            (inl (put_sound is, insert_here number served.next.session without, prints_so is)) served.next.session.account _ refl

  -- ---- frame after frame

  rest_own : (runner : Runner) (rest : List ℕ) → IsServing number stream runner → rest ≡ (cut stream).rest →
      Ends number (on_rest settings number runner rest) ⊎ Lasts number stream (on_rest settings number runner rest)
  unfolding read_pdu
  rest_own runner rest s is = by_test (begins_wrong rest)
    where
      no_frame : (pdu : Pdu) → read_pdu [] ≡ Ok pdu → In [] (cut stream).frames
      no_frame pdu reads = absurd cc

      wrong : EndsNow (ends settings number runner) ⊎ Serves (ends settings number runner)
      wrong = serves_own runner s [] no_frame _ (length_so [] runner.node number (session_in runner.sessions number) settings)

      by_test : (test : Bool) → Ends number (cond {A = Acted} test (ends settings number runner) (holds runner number rest))
          ⊎ Lasts number stream (cond {A = Acted} test (ends settings number runner) (holds runner number rest))
      by_test true = elim wrong [
        | inl ended ↦ inl ended.ended
        | inr serves ↦
            absurd (serves.plain (Gone number) (in_left (Gone number) _ _
            (length_told runner.node number settings (session_in runner.sessions number) (session_stands runner s))))
      ]
      by_test false = inr (record {
        hears = record {
          sound = s.sound;
          held = record {
            rest = ap or_nothing (here_now number rest runner.streams) ∙ is;
            apart = insert_apart runner.streams number rest (λ has. some_there number runner.streams has s.none) s.apart;
          };
        };
        plain = λ print among. absurd among;
      })

  frames_own : (frames : List (List ℕ)) (rest : List ℕ) (runner : Runner) → IsServing number stream runner →
      ((frame : List ℕ) → In frame frames → In frame (cut stream).frames) → rest ≡ (cut stream).rest →
      Ends number (on_frames settings number runner frames rest) ⊎ Lasts number stream (on_frames settings number runner frames rest)
  unfolding on_frames on_frame
  frames_own [] rest runner s are is = rest_own runner rest s is
  frames_own (frame ∷ frames) rest runner s are is =
      by_test (session_at one.next.sessions number) refl here (λ serving. frames_own frames rest one.next serving (λ other among. are other (inr among)) is)
    where
      before : Session
      before = session_in runner.sessions number

      one : Acted
      one = serves runner number (on_read settings number runner.node before frame (read_pdu frame))

      here : EndsNow one ⊎ Serves one
      here = serves_own runner s frame (λ pdu reads. are frame (inl refl)) _
          (read_so frame runner.node number before settings (read_pdu frame) refl)

      later : Acted
      later = on_frames settings number one.next frames rest

      by_test : (found : Option Session) → lookup (is_at (nat_cmp number)) one.next.sessions ≡ found → EndsNow one ⊎ Serves one →
          (IsServing number stream one.next → Ends number later ⊎ Lasts number stream later) →
          Ends number (cond {A = Acted} (is_none found) one (followed_by one later))
          ⊎ Lasts number stream (cond {A = Acted} (is_none found) one (followed_by one later))
      by_test None found (inl ended) behind = inl ended.ended
      by_test None found (inr serves) behind = absurd (some_there number one.next.sessions serves.serving.has found)
      by_test (Some session) found (inl ended) behind =
          absurd (ended.absent (record { value = session; among = found_entry one.next.sessions number session found }))
      by_test (Some session) found (inr serves) behind = elim (behind serves.serving) [
        | inl ended ↦ inl (record {
          told = in_right (Gone number) one.prints later.prints ended.told;
          hears = ended.hears;
          late = λ id pdu among. elim (in_either (Late number id pdu) one.prints later.prints among) [
            | inl a ↦ plain_late number id pdu _ refl (inl (serves.plain _ a))
            | inr b ↦ ended.late id pdu b
          ];
        })
        | inr lasts ↦ inr (record {
          hears = lasts.hears;
          plain = λ print among. elim (in_either print one.prints later.prints among) [ inl a ↦ serves.plain print a | inr b ↦ lasts.plain print b ];
        })
      ]

-- what came before is the front of what came by now
pub octets_own : (number : ℕ) (stream : List ℕ) (settings : Settings) (runner : Runner) (octets : List ℕ) → Hears number stream runner →
    Ends number (on_octets settings runner number octets) ⊎ Lasts number (stream ++ octets) (on_octets settings runner number octets)
unfolding on_octets
octets_own number stream settings runner octets hears =
    frames_own number (stream ++ octets) settings now.frames now.rest (opened_at runner number)
    (record {
      sound = record {
        given = hears.sound.given;
        there = inr (insert_here number opened without);
        each = λ session among.
            elim (inserted_in without number opened (number, session) among) [
              | inl new ↦
                  let is = ap (λ (x : ℕ × Session). x.1) new in
                  record {
                    open_still = ap (λ (x : Session). is_gone x.state) is ∙ opened_stands;
                    tied = λ request waits. tied_more request
                        (session_tied number stream settings runner hears.sound request (subst (λ (x : Session). In request x.requests) is waits));
                  }
              | inr old ↦ absurd (none_left number runner.sessions hears.sound.apart (record { value = session; among = old }))
            ];
        apart = put_apart runner.sessions number opened hears.sound.apart;
      };
      has = insert_here number opened without;
      apart = remove_apart (is_at (nat_cmp number)) runner.streams hears.held.apart;
      none = removed_there number runner.streams hears.held.apart;
    })
    (λ frame among. subst (In frame) (sym more.0) (in_right frame (cut stream).frames _ (subst (λ (c : Cut). In frame c.frames) same among)))
    (ap (λ (c : Cut). c.rest) same ∙ sym more.1)
  where
    now : Cut
    now = cut (held_in runner.streams number ++ octets)

    same : now ≡ cut ((cut stream).rest ++ octets)
    same = ap (λ (held : List ℕ). cut (held ++ octets)) hears.held.rest

    more : ((cut (stream ++ octets)).frames ≡ (cut stream).frames ++ (cut ((cut stream).rest ++ octets)).frames)
        × ((cut (stream ++ octets)).rest ≡ (cut ((cut stream).rest ++ octets)).rest)
    more = cut_more stream octets

    opened : Session
    opened = session_in runner.sessions number

    without : List (ℕ × Session)
    without = remove_entry (is_at (nat_cmp number)) runner.sessions

    opened_stands : is_gone opened.state ≡ false
    opened_stands = by_found (lookup (is_at (nat_cmp number)) runner.sessions) refl
      where
        by_found : (found : Option Session) → lookup (is_at (nat_cmp number)) runner.sessions ≡ found → is_gone (session_or_opened found).state ≡ false
        by_found None is = refl
        by_found (Some session) is = (hears.sound.each session (found_entry runner.sessions number session is)).open_still

    tied_more : (request : OpenRequest) → IsTied stream runner.node.kept request → IsTied (stream ++ octets) runner.node.kept request
    tied_more request tied = record {
      below = tied.below;
      frame = tied.frame;
      among = subst (In tied.frame) (sym more.0) (in_left tied.frame (cut stream).frames _ tied.among);
      pdu = tied.pdu;
      reads = tied.reads;
      sequence_is = tied.sequence_is;
      asks = tied.asks;
      names = tied.names;
    }
