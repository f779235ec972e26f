-- What is answered to a request: its status code and its fields by HTTP (RFC 9110), its text (own).
use Rattle.std.specs.Prelude.{Bool, true, false, ◌||◌, ℕ, List, [], ◌∷◌, codes, if◌then◌else◌}
use Rattle.std.specs.Str.{bytes_eq}
use Rattle.http.specs.Request.{head_of}
use Rattle.http.specs.declared.request.Request.{Request}
use Rattle.http1.specs.Fields.{Header}
use Rattle.http_uri.specs.Uri.{uri_path}
use Rattle.http_server.specs.Response.{IsResponse}
use Rattle.http_server.specs.declared.response.Response.{Response}
use Rattle.status_page.specs.declared.status.Status.{Status}
use Rattle.status_page.specs.declared.wanted.Wanted.{Wanted}
use Rattle.status_page.specs.declared.wanted.Wanted.TheVariants.{Page, Metrics, Json, Ready, Nothing, Change}
use Rattle.status_page.specs.Texts.{json_text, metrics_text, page_text}

-- nothing but GET and HEAD (RFC 9110, sections 9.3.1 and 9.3.2)
abbrev pub is_read : List ℕ → Bool
is_read method = bytes_eq method (codes "GET") || bytes_eq method (codes "HEAD")

abbrev pub wanted_at : List ℕ → Wanted
wanted_at path =
    if bytes_eq path (codes "/") then Page
    else if bytes_eq path (codes "/metrics") then Metrics
    else if bytes_eq path (codes "/status") then Json
    else if bytes_eq path (codes "/ready") then Ready else Nothing

abbrev pub wanted : List ℕ → List ℕ → Wanted
wanted method path = if is_read method then wanted_at path else Change

-- the status code of whether it serves
abbrev pub ready_code : Bool → ℕ
ready_code true = 200
ready_code false = 503

-- OK, Not Found, Method Not Allowed, Service Unavailable (RFC 9110, sections 15.3.1, 15.5.5, 15.5.6, 15.6.4)
abbrev pub code : Wanted → Status → ℕ
code Page status = 200
code Metrics status = 200
code Json status = 200
code Ready status = ready_code status.serving
code Nothing status = 404
code Change status = 405

abbrev pub media_type : Wanted → List ℕ
media_type Page = codes "text/html; charset=utf-8"
media_type Metrics = codes "text/plain; version=0.0.4; charset=utf-8"
media_type Json = codes "application/json"
media_type Ready = codes "text/plain; charset=utf-8"
media_type Nothing = codes "text/plain; charset=utf-8"
media_type Change = codes "text/plain; charset=utf-8"

abbrev pub ready_text : Bool → List ℕ
ready_text true = codes "it serves\n"
ready_text false = codes "it does not serve yet\n"

abbrev pub text : Wanted → Status → List ℕ
text Page status = page_text status
text Metrics status = metrics_text status
text Json status = json_text status
text Ready status = ready_text status.serving
text Nothing status = codes "there is /, /metrics, /status and /ready\n"
text Change status = codes "there is GET and HEAD\n"

-- a 405 says which methods there are (RFC 9110, section 10.2.1)
abbrev pub allowed : Wanted → List Header
allowed Change = (codes "allow", codes "GET, HEAD") ∷ []
allowed other = []

-- the connection ends behind it (RFC 9112, section 9.6)
abbrev pub fields_for : Wanted → List Header
fields_for asked = (codes "connection", codes "close") ∷ (codes "content-type", media_type asked) ∷ allowed asked

abbrev pub IsAnswerTo : Wanted → Status → Response → Type 0
IsAnswerTo asked status response = IsResponse (code asked status) (fields_for asked) (text asked status) response

abbrev pub IsAnswer : Status → Request (List ℕ) → Response → Type 0
IsAnswer status request response = IsAnswerTo (wanted (head_of request).method (uri_path (head_of request).uri)) status response
